-- `records::start_fault` meets its contract: whether the start is below the previous end is the one test of `start_fault`, and the machine makes it on the numbers themselves. Assumes nothing.
use Rattle.whole.specs.laws.Whole.{whole}
use Rattle.records.specs.Faults.{start_fault}
use Rattle.records.proofs.start_fault.Goals as goal

pub returns-then-start-previous_end : goal.returns-then-start-previous_end
unfolding start_fault
returns-then-start-previous_end c = search whole

pub returns : goal.returns
unfolding start_fault
returns c = search whole
