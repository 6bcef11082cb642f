-- `cigar::more` meets its contract: a digit is at least `0` (`digit_bounds`), so that its value does not wrap, and the test picks the smaller of the sum and one above the largest. Assumes nothing.
use native.Mathlib.Omega.{arith}
use Rattle.cigar.specs.laws.Letters.{digit_bounds}
use Rattle.cigar.proofs.more.Goals as goal

pub overflow_sub-m : goal.overflow_sub-m
overflow_sub-m c = omega (arith, digit_bounds c.args.digit c.requires.1)
