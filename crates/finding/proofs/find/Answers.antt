-- A place before all counts to the first segment, one behind all to the last, as ends rise, and any other is found as an unsigned number. Assumes nothing.
use native.Mathlib.Omega.{arith}
use mathlib.Core.Bool.{true, false}
use mathlib.Core.Path.{◌≡◌, sym, ◌∙◌}
use lib.IntN.{pos}
use lib.Signed.{lt_z, le_z}
use Rattle.whole.specs.laws.Whole.{read, order}
use Rattle.finding.proofs.Halving.{before_all, behind_all}
use Rattle.finding.proofs.find.Goals as goal
use Rattle.finding.proofs.find.Goals.{Else-p-lt0}

pub returns-then-p-lt0 : goal.returns-then-p-lt0
returns-then-p-lt0 c =
    record { within = omega (arith, c.requires.0); found = λ up. before_all _ _ _ c.requires.0 (simp (read c.ranges.p) at c.if-p-lt0.true) }

-- the place is not before all
not_before : (c : Else-p-lt0) → le_z (pos 0) c.args.p ≡ true
not_before c =
    let behind : lt_z c.args.p (pos 0) ≡ false = simp (read c.ranges.p) at c.if-p-lt0.false in
    omega (order, behind)

pub natural-requires : goal.natural-requires
natural-requires c =
    let p = read c.ranges.p in
    simp p (not_before (goal.at.natural-requires c).Else-p-lt0, simp p at (sym c.is_above.ensures ∙ c.if-is_above.true))

pub returns-then-is_above : goal.returns-then-is_above
returns-then-is_above c =
    let p = read c.ranges.p in
    record { within = c.find_natural.ensures.within; found = λ up. simp (simp p at c.natural.ensures) at (c.find_natural.ensures.found up) }

pub returns : goal.returns
returns c =
    record { within = omega (arith, c.requires.0); found = λ up. behind_all _ _ _ c.requires.0 up (simp (read c.ranges.p) at (sym c.is_above.ensures ∙ c.if-is_above.false)) }
