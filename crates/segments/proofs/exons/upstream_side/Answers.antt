-- The strand's test goes the definition's way. Assumes nothing.
use Rattle.segments.proofs.exons.upstream_side.Goals as goal

pub returns-then-forward : goal.returns-then-forward
returns-then-forward c = simp c.if-forward.true

pub returns-else-forward : goal.returns-else-forward
returns-else-forward c = simp c.if-forward.false
