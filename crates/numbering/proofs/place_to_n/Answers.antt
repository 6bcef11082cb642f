-- `numbering::place_to_n` meets its contract: the 1 is added where the place is 0 or above, which is `n_of_place`'s test, and a place below 2^40 has room for it. Assumes nothing.
use Rattle.whole.specs.laws.Whole.{whole}
use Rattle.numbering.specs.Numbers.{n_of_place}
use Rattle.numbering.proofs.place_to_n.Goals as goal

pub overflow_add-next : goal.overflow_add-next
overflow_add-next c = search whole

pub returns-then-z-ge0 : goal.returns-then-z-ge0
unfolding n_of_place
returns-then-z-ge0 c = search whole

pub returns-else-z-ge0 : goal.returns-else-z-ge0
unfolding n_of_place
returns-else-z-ge0 c = search whole
