-- One arm for each edge. Assumes nothing.
use Rattle.segments.proofs.exons.numbered_from.Goals as goal

pub returns-in-Right : goal.returns-in-Right
returns-in-Right c = simp c.in-Right.is
