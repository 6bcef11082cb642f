-- What stands at the number that the edge and the strand say. Assumes nothing.
use Rattle.segments.specs.Exons.{exon_chosen}
use Rattle.segments.proofs.exons.chosen.Goals as goal

pub returns : goal.returns
unfolding exon_chosen
returns c = simp (c.number_at.ensures, c.upstream_of-i.ensures)
