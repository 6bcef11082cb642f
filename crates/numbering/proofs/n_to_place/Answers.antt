-- `numbering::n_to_place` meets its contract: `place_of_n` makes the one test that the code makes, whether the number is 1 or above, and a number below 2^40 has room for one less. Assumes nothing.
use Rattle.whole.specs.laws.Whole.{whole}
use Rattle.numbering.specs.Numbers.{place_of_n}
use Rattle.numbering.proofs.n_to_place.Goals as goal

pub overflow_sub-last : goal.overflow_sub-last
overflow_sub-last c = search whole

pub returns-then-z-ge1 : goal.returns-then-z-ge1
unfolding place_of_n
returns-then-z-ge1 c = search whole

pub returns-else-z-ge1 : goal.returns-else-z-ge1
unfolding place_of_n
returns-else-z-ge1 c = search whole
