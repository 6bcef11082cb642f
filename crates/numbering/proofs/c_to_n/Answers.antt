-- `numbering::c_to_n` meets its contract: each branch is a case of `n_of_c`, its sum of numbers below 2^40 does not wrap, and `skip_zero` ensures the last step. Assumes nothing.
use Rattle.whole.specs.laws.Whole.{whole}
use Rattle.numbering.specs.Numbers.{n_of_c}
use Rattle.numbering.proofs.c_to_n.Goals as goal

pub overflow_add-r : goal.overflow_add-r
overflow_add-r c = search whole

pub skip_zero-requires : goal.skip_zero-requires
skip_zero-requires c = search whole

pub overflow_add-r-then-b-lt0 : goal.overflow_add-r-then-b-lt0
overflow_add-r-then-b-lt0 c = search whole

pub overflow_add-r-then-b-lt0-2 : goal.overflow_add-r-then-b-lt0-2
overflow_add-r-then-b-lt0-2 c = search whole

pub skip_zero-requires-then-b-lt0 : goal.skip_zero-requires-then-b-lt0
skip_zero-requires-then-b-lt0 c = search whole

pub overflow_add-r-else-b-lt0 : goal.overflow_add-r-else-b-lt0
overflow_add-r-else-b-lt0 c = search whole

pub skip_zero-requires-else-b-lt0 : goal.skip_zero-requires-else-b-lt0
skip_zero-requires-else-b-lt0 c = search whole

pub returns-then-star : goal.returns-then-star
unfolding n_of_c
returns-then-star c = search (whole, c.skip_zero.ensures)

pub returns-then-b-lt0 : goal.returns-then-b-lt0
unfolding n_of_c
returns-then-b-lt0 c = search (whole, c.skip_zero-then-b-lt0.ensures) depth 8

pub returns-else-b-lt0 : goal.returns-else-b-lt0
unfolding n_of_c
returns-else-b-lt0 c = search (whole, c.skip_zero-else-b-lt0.ensures)
