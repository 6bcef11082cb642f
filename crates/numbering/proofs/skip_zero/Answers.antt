-- `numbering::skip_zero` meets its contract: the code takes the 1 off where `skip_zero` does, at 0 or less, and a sum below 2^44 has room for it. Assumes nothing.
use Rattle.whole.specs.laws.Whole.{whole}
use Rattle.numbering.specs.Numbers.{skip_zero}
use Rattle.numbering.proofs.skip_zero.Goals as goal

pub overflow_sub-last : goal.overflow_sub-last
overflow_sub-last c = search whole

pub returns-then-r-le0 : goal.returns-then-r-le0
unfolding skip_zero
returns-then-r-le0 c = search whole

pub returns-else-r-le0 : goal.returns-else-r-le0
unfolding skip_zero
returns-else-r-le0 c = search whole
