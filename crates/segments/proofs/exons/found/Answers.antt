-- What stands at the number that the edge says. Assumes nothing.
use Rattle.segments.specs.Exons.{exon_found}
use Rattle.segments.proofs.exons.found.Goals as goal

pub returns : goal.returns
unfolding exon_found
returns c = simp (c.number_at.ensures, c.numbered_from-i.ensures)
