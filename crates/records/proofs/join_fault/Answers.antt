-- `records::join_fault` meets its contract: `==` compares the bits of two numbers that fit them, which is `eqZ`, the one test of `join_fault`. Assumes nothing.
use Rattle.whole.specs.laws.Whole.{whole}
use Rattle.records.specs.Faults.{join_fault}
use Rattle.records.proofs.join_fault.Goals as goal

pub returns-then-end-start : goal.returns-then-end-start
unfolding join_fault
returns-then-end-start c = search whole

pub returns : goal.returns
unfolding join_fault
returns c = search whole
