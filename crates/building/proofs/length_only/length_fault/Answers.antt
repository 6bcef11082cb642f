-- `building::length_only::length_fault` meets its contract: 4 below 0 and 9 above the most bases are the tests of `length_fault`, in its order, on an `i64` that is the number itself. Assumes nothing.
use Rattle.judging.specs.Judging.{length_fault}
use Rattle.whole.specs.laws.Whole.{whole}
use Rattle.building.proofs.length_only.length_fault.Goals as goal

pub returns-then-length-lt0 : goal.returns-then-length-lt0
unfolding length_fault
returns-then-length-lt0 c = search whole

pub returns-then-length : goal.returns-then-length
unfolding length_fault
returns-then-length c = search whole

pub returns : goal.returns
unfolding length_fault
returns c = search whole
