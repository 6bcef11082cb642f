-- `numbering::n_to_c` meets its contract: the branches test what `c_of_n` tests, and no difference of numbers below 2^40 wraps. The return behind two tests and two differences takes a deeper search. Assumes nothing.
use Rattle.whole.specs.laws.Whole.{whole}
use Rattle.numbering.specs.Numbers.{c_of_n}
use Rattle.numbering.proofs.n_to_c.Goals as goal

pub overflow_sub-base : goal.overflow_sub-base
overflow_sub-base c = search whole

pub overflow_sub-base-then-b-gt0 : goal.overflow_sub-base-then-b-gt0
overflow_sub-base-then-b-gt0 c = search whole

pub overflow_sub-base-else-b-gt0 : goal.overflow_sub-base-else-b-gt0
overflow_sub-base-else-b-gt0 c = search whole

pub overflow_sub-base-then-b-e : goal.overflow_sub-base-then-b-e
overflow_sub-base-then-b-e c = search whole

pub overflow_sub-base-else-b-e : goal.overflow_sub-base-else-b-e
overflow_sub-base-else-b-e c = search whole

pub returns-then-b-gt0 : goal.returns-then-b-gt0
unfolding c_of_n
returns-then-b-gt0 c = search whole depth 8

pub returns-else-b-gt0 : goal.returns-else-b-gt0
unfolding c_of_n
returns-else-b-gt0 c = search whole

pub returns-then-b-e : goal.returns-then-b-e
unfolding c_of_n
returns-then-b-e c = search whole

pub returns-else-b-e : goal.returns-else-b-e
unfolding c_of_n
returns-else-b-e c = search whole
