-- The test goes the definition's way, and what the machine reads back from the edge and the distance are the definition's. Assumes nothing.
use mathlib.Core.Path.{refl, sym, ◌∙◌}
use native.Mathlib.Omega.{arith}
use Rattle.whole.specs.laws.Whole.{read, fits_38}
use Rattle.segments.specs.Places.{nearer}
use Rattle.whole.specs.laws.Machine.{entry}
use Rattle.segments.proofs.Bounds.{fits_37, negated, before_37, entry_37, back_38}
use Rattle.segments.proofs.nearer_edge.Goals as goal

pub overflow_sub-before : goal.overflow_sub-before
overflow_sub-before c =
    let t = c.ranges.t in
    simp (entry t) (fits_37 (before_37 t))

pub overflow_sub-back : goal.overflow_sub-back
overflow_sub-back c = simp (read c.ranges.right, negated) (fits_38 (back_38 c.requires.within_2))

pub returns-then-is_left_nearer : goal.returns-then-is_left_nearer
unfolding nearer
returns-then-is_left_nearer c =
    let t = c.ranges.t in
    let is_left = simp (read c.ranges.left, read c.ranges.right) at (sym c.is_left_nearer.ensures ∙ c.if-is_left_nearer.true) in
    simp (entry t, read (fits_37 (before_37 t)), read c.ranges.left, is_left)
    record { said = refl; small = record { place_small = before_37 t; offset_small = omega (arith, c.requires.within.within) } }

pub returns-else-is_left_nearer : goal.returns-else-is_left_nearer
unfolding nearer
returns-else-is_left_nearer c =
    let t = c.ranges.t in
    let back = back_38 c.requires.within_2 in
    let is_right = simp (read c.ranges.left, read c.ranges.right) at (sym c.is_left_nearer.ensures ∙ c.if-is_left_nearer.false) in
    simp (entry t, read c.ranges.right, negated, read (fits_38 back), is_right)
    record { said = refl; small = record { place_small = entry_37 t; offset_small = back } }
