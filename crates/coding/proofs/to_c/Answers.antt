-- 15's test is made on the numbers of the question; then 17 of an interval is 17 of its ends. Assumes nothing.
use Rattle.std.proofs.Common.{rules}
use Rattle.positions.specs.Answers.{unmarked, c_fits}
use Rattle.positions.specs.Paper.{paper_c_position}
use Rattle.positions.specs.laws.Ends.{ends_fit}
use Rattle.positions.specs.laws.Reading.{both_says}
use Rattle.coding.specs.Coding.{map_n_to_c, c_of_interval}
use Rattle.coding.proofs.to_c.Goals as goal

pub returns : goal.returns
unfolding map_n_to_c c_of_interval
returns c =
    simp (c.both.ensures, both_says paper_c_position, c.c_position.ensures, c.c_position-2.ensures) (rw (← ends_fit c_fits unmarked _ _) (search rules))
