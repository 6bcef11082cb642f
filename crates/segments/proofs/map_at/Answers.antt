-- `spot_in` answers for what stands in the tables at the number. Assumes nothing.
use Rattle.whole.specs.laws.Whole.{read}
use Rattle.segments.proofs.map_at.Goals as goal

pub returns : goal.returns
returns c =
    let p = read c.ranges.p in
    record { said = simp p at c.spot_in.ensures.said; small = c.spot_in.ensures.small }
