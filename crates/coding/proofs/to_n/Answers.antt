-- Where both ends are one position, its n. position is both. Assumes nothing.
use mathlib.Core.Path.{◌∙◌, sym}
use Rattle.positions.specs.Paper.{paper_n_position}
use Rattle.positions.specs.laws.Reading.{both_says}
use Rattle.coding.specs.Coding.{map_c_to_n}
use Rattle.coding.specs.laws.Same.{same_says}
use Rattle.coding.proofs.to_n.Goals as goal

pub returns-then-is_same : goal.returns-then-is_same
unfolding map_c_to_n
returns-then-is_same c =
    let one = same_says _ _ (sym c.is_same.ensures ∙ c.if-is_same.true) in
    rw (← one) (simp (c.both.ensures, both_says paper_n_position, c.n_position-one.ensures))
