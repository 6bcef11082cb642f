-- `records::rise_fault` meets its contract: the machine's `a < b` is the test of `rise_fault`: no refusal where `ord` rises, and 5 where it does not. Assumes nothing.
use Rattle.whole.specs.laws.Whole.{whole}
use Rattle.records.specs.Faults.{rise_fault}
use Rattle.records.proofs.rise_fault.Goals as goal

pub returns-then-a-b : goal.returns-then-a-b
unfolding rise_fault
returns-then-a-b c = search whole

pub returns : goal.returns
unfolding rise_fault
returns c = search whole
