-- The code's ends and spots in the paper's terms, and the two directions of mapping over tables. Assumes nothing.
use Rattle.std.specs.Prelude.{ℕ, Bool, true, ℤ}
use Rattle.whole.specs.Whole.{Within}
use Rattle.cigar.specs.Elements.{genome, transcript}
use Rattle.segments.specs.Tables.{Tables, read}
use Rattle.segments.specs.Places.{Spot, Edge, End, map_place}
use Rattle.segments.specs.Places.End.{start, stop}
use Rattle.segments.specs.declared.Spot as code
use Rattle.segments.specs.declared.End as code_end
use Rattle.segments.specs.declared.End.TheVariants.{Start, Stop}
use Rattle.segments.specs.declared.Edge as code_edge

-- an interval's end
abbrev pub end_said : code_end.End → End
end_said Start = start
end_said Stop = stop

-- the edge of an N
abbrev pub edge_said : code_edge.Edge → Edge
edge_said code_edge.TheVariants.None = Edge.no_edge
edge_said code_edge.TheVariants.Left = Edge.left_edge
edge_said code_edge.TheVariants.Right = Edge.right_edge

-- a spot
abbrev pub spot_said : code.Spot → Spot
spot_said s = record { place = s.place.0; offset = s.offset; sure = s.sure; number = s.number; edge = edge_said s.edge }

-- a spot whose place is below 2 ^ k in size: its numbers leave room for a few sums
pub record Small (k : ℕ) (s : code.Spot) : Type 0 where
  pub place_small : Within k s.place.0
  pub offset_small : Within 38 s.offset

-- the elements that the tables stand for, from the genome to the transcript
abbrev pub to_transcript : Tables → ℕ → ℤ → End → Bool → Spot
to_transcript a n p e forward = map_place genome transcript (read a n) p e forward

-- and from the transcript to the genome, where the strand counts as 1
abbrev pub to_genome : Tables → ℕ → ℤ → End → Spot
to_genome a n p e = map_place transcript genome (read a n) p e true
