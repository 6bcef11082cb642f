-- `spots::spot_of_g` meets its contract: what `genome_to_transcript` gives, whose segment is one of those that there are. Assumes nothing.
use mathlib.Core.List.{[]}
use Rattle.spots.specs.laws.Spans.{on_transcript, same_number}
use Rattle.spots.proofs.spot_of_g.Goals as goal

pub returns-clause-small : goal.returns-clause-small
returns-clause-small c =
    let said = c.genome_to_transcript.ensures in
    (said.small, same_number said.said (on_transcript c.args.at _ [] c.requires.0 _ _ _))
