-- One test for each strand, of numbers that the machine reads back. Assumes nothing.
use Rattle.whole.specs.laws.Whole.{read}
use Rattle.segments.proofs.is_left_nearer.Goals as goal

pub returns-then-forward : goal.returns-then-forward
returns-then-forward c = simp (read c.ranges.left, read c.ranges.right, c.if-forward.true)

pub returns-else-forward : goal.returns-else-forward
returns-else-forward c = simp (read c.ranges.left, read c.ranges.right, c.if-forward.false)
