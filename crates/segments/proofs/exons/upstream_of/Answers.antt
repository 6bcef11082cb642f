-- One arm for each edge, and what is before an N by the strand. Assumes nothing.
use Rattle.segments.proofs.exons.upstream_of.Goals as goal

pub returns-in-Left : goal.returns-in-Left
returns-in-Left c = simp (c.in-Left.is, c.upstream_side-skipped.ensures)

pub returns-in-Right : goal.returns-in-Right
returns-in-Right c = simp (c.in-Right.is, c.upstream_side-skipped.ensures)
