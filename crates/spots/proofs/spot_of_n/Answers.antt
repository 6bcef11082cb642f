-- `spots::spot_of_n` meets its contract: what `transcript_to_genome` gives, whose segment is one of those that there are. Assumes nothing.
use mathlib.Core.List.{[]}
use Rattle.spots.specs.laws.Spans.{on_genome, same_number}
use Rattle.spots.proofs.spot_of_n.Goals as goal

pub returns-clause-small : goal.returns-clause-small
returns-clause-small c =
    let said = c.transcript_to_genome.ensures in
    (said.small, same_number said.said (on_genome c.args.at _ [] c.requires.0 _ _))
