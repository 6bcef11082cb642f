-- How large a spot's numbers are. Assumes nothing.
use Rattle.std.proofs.Common.{arith}
use Rattle.segments.specs.Paper.{Small}
use Rattle.segments.specs.declared.Spot.{Spot}

pub wider : {s : Spot} → Small 37 s → Small 38 s
wider h = record { place_small = omega (arith, h.place_small.within); offset_small = h.offset_small }
