-- `records::span_fault` meets its contract: `span_fault` makes the same three tests in the same order, and the machine's test of two `i64`s is the test of their numbers. Assumes nothing.
use Rattle.whole.specs.laws.Whole.{whole}
use Rattle.records.specs.Faults.{span_fault}
use Rattle.records.proofs.span_fault.Goals as goal
use Rattle.records.proofs.span_fault.Goals.{then-start-lt0-via-then-start-lt0, then-start-lt0-via-else-start-lt0+then-end-lt0, then-start-lt0-via-else-start-lt0+else-end-lt0+then-end-start}

pub returns-then-start-lt0 : goal.returns-then-start-lt0
unfolding span_fault
returns-then-start-lt0 c =
    elim c.then-start-lt0.branch [
      | then-start-lt0-via-then-start-lt0 w ↦ search whole
      | then-start-lt0-via-else-start-lt0+then-end-lt0 w ↦ search whole
      | then-start-lt0-via-else-start-lt0+else-end-lt0+then-end-start w ↦ search whole
    ]

pub returns : goal.returns
unfolding span_fault
returns c = search whole
