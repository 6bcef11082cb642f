-- `holding::bases_of` meets its contract: a length that passes the tests of the machine is its natural. Assumes nothing.
use Rattle.std.specs.Prelude.{Some}
use native.Mathlib.Omega.{arith}
use mathlib.Core.Bool.{true, false}
use mathlib.Core.Path.{◌≡◌, ap}
use lib.IntN.{ℤ, pos, nat_abs}
use lib.Signed.{le_z, lt_z}
use mir.Syntax.{w32}
use mir.Val.{SFits, to_z, of_z}
use borrow.Author.Tests.{le-leb}
use Rattle.refusals.specs.Numbers.{most_bases}
use Rattle.whole.specs.laws.Whole.{order, read}
use Rattle.whole.specs.laws.Machine.{same_32, other_32, natural_le}
use Rattle.holding.specs.Parts.{bases_of}
use Rattle.holding.proofs.bases_of.Goals as goal

-- a number of the head that is not below 0
natural_by : {z : ℤ} → SFits w32 z → lt_z (to_z w32 (of_z w32 z)) (pos 0) ≡ false → le_z (pos 0) z ≡ true
natural_by fits test = let t = simp (read fits) at test in omega (order, t)

pub returns-then-bases-le-MOST_BASES : goal.returns-then-bases-le-MOST_BASES
unfolding bases_of
returns-then-bases-le-MOST_BASES c =
    let h = c.args.head in
    let kind : SFits w32 h.kind = record { sfits = c.struct_told-1.given.0.1 } in
    let length : SFits w32 h.length = record { sfits = c.struct_told-1.given.1.1.1.1.1.1.1.0.1 } in
    let above = natural_by length c.if-length-lt0.false in
    let is = simp (read length) at c.natural-bases.ensures in
    rw (other_32 h.kind (pos 0) c.if-kind-eq-OF_RECORDS.false, same_32 {b = pos 1} kind (record { sfits = omega arith }) c.if-kind-eq-OF_LENGTH.true, above, natural_le h.length most_bases above, le-leb (nat_abs h.length) most_bases (omega (arith, is))) (ap Some is)
