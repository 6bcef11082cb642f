-- `judging::range_fault` meets its contract: the code makes `range_fault`'s three tests in its order and refuses at the first that is true, on `i64`s that are the numbers themselves. Assumes nothing.
use Rattle.judging.specs.Judging.{range_fault}
use Rattle.whole.specs.laws.Whole.{whole}
use Rattle.judging.proofs.range_fault.Goals as goal
use Rattle.judging.proofs.range_fault.Goals.{then-start-lt0-via-then-start-lt0, then-start-lt0-via-else-start-lt0+then-end-start, then-start-lt0-via-else-start-lt0+else-end-start+then-last-end}

pub returns-then-start-lt0 : goal.returns-then-start-lt0
unfolding range_fault
returns-then-start-lt0 c =
    elim c.then-start-lt0.branch [
      | then-start-lt0-via-then-start-lt0 w ↦ search whole
      | then-start-lt0-via-else-start-lt0+then-end-start w ↦ search whole
      | then-start-lt0-via-else-start-lt0+else-end-start+then-last-end w ↦ search whole
    ]

pub returns : goal.returns
unfolding range_fault
returns c = search whole
