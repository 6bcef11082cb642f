-- Where a place of one side is on the other. A place is a whole number, zero-based.
-- The two directions of mapping differ only in which side is `from` and which is `to`, so both are defined, and their facts shown, once. Assumes nothing.
use Rattle.std.specs.Prelude.{ℕ, ◌+◌, Bool, true, false, List, ℤ, pos, neg_ℤ, ◌+ℤ◌, ◌-ℤ◌, get_or, length, if◌then◌else◌}
use Rattle.std.specs.Int.Signed.{lt_z, le_z}
use Rattle.cigar.specs.Elements.{Element, Side, Kind, kind_of}
use Rattle.cigar.specs.Elements.Kind.{matches, inserts, deletes, skips}
use Rattle.cigar.specs.Read.{letters_of}
use Rattle.finding.specs.Finding.{index_of}
use Rattle.segments.specs.Tables.{entries_of}

-- one segment as a question about a place sees it: where it begins and ends on the side that the place is on, and where it begins on the other
pub record Segment : Type 0 where
  pub number : ℕ
  pub does : Kind
  pub begins : ℕ
  pub ends : ℕ
  pub other : ℕ

-- segment i of the tables
abbrev pub segment_at : List ℕ → List ℕ → List ℕ → ℕ → Segment
segment_at from to letters i = record { number = i; does = kind_of (get_or letters i 0); begins = get_or from i 0; ends = get_or from (i + 1) 0; other = get_or to i 0 }

-- ---- the place p of a segment

-- the edge of an N that a place of it counts from; a place of any other segment counts from none
pub data Edge : Type 0 where
  no_edge : Edge
  left_edge : Edge
  right_edge : Edge

-- a place on the other side, with its offset; it is not sure if it fell in an I or a D; the number of the segment that it fell in, and the edge that it counts from
pub record Spot : Type 0 where
  pub place : ℤ
  pub offset : ℤ
  pub sure : Bool
  pub number : ℕ
  pub edge : Edge

abbrev pub surely : ℕ → Edge → ℤ → ℤ → Spot
surely i e p o = record { place = p; offset = o; sure = true; number = i; edge = e }

abbrev pub unsurely : ℕ → ℤ → Spot
unsurely i p = record { place = p; offset = pos 0; sure = false; number = i; edge = no_edge }

-- an interval has two ends
pub data End : Type 0 where
  start : End
  stop : End

-- beside an I or a D at t: t - 1 for an interval's start, t for its end
abbrev pub beside : End → ℕ → ℤ
beside start t = pos t -ℤ pos 1
beside stop t = pos t

-- the left edge of an N is the nearer one; halfway it is the nearer on strand 1
abbrev pub left_nearer : Bool → ℤ → ℤ → Bool
left_nearer true left right = le_z left right
left_nearer false left right = lt_z left right

-- from the N with the number i at t: the nearer edge, and how far it is
unfoldable pub nearer : ℕ → Bool → ℕ → ℤ → ℤ → Spot
nearer i forward t left right =
    if left_nearer forward left right then surely i left_edge (pos t -ℤ pos 1) left
    else surely i right_edge (pos t) (neg_ℤ right)

-- the place p of the segment i, which goes from f to h and begins at t on the other side
unfoldable pub spot_in : ℕ → Kind → ℕ → ℕ → ℕ → ℤ → End → Bool → Spot
spot_in i matches f h t p end forward = surely i no_edge (pos t +ℤ (p -ℤ pos f)) (pos 0)
spot_in i inserts f h t p end forward = unsurely i (beside end t)
spot_in i deletes f h t p end forward = unsurely i (beside end t)
spot_in i skips f h t p end forward = nearer i forward t (p -ℤ pos f +ℤ pos 1) (pos h -ℤ p)

abbrev pub spot_of : Segment → ℤ → End → Bool → Spot
spot_of s p end forward = spot_in s.number s.does s.begins s.ends s.other p end forward

-- the spot of an interval's end, where its start is the same place and has the spot a: the same where it is sure, and otherwise one place further
unfoldable pub stop_of : Spot → Spot
stop_of a = if a.sure then a else record { place = a.place +ℤ pos 1; offset = pos 0; sure = false; number = a.number; edge = a.edge }

-- ---- the place p, which begins an interval or ends it

-- by the tables of n segments
unfoldable pub map_by_tables : List ℕ → List ℕ → List ℕ → ℕ → ℤ → End → Bool → Spot
map_by_tables from to letters n p end forward = spot_of (segment_at from to letters (index_of from n p)) p end forward

-- by the entries of elements
unfoldable pub map_place : Side → Side → List Element → ℤ → End → Bool → Spot
map_place from to es p end forward = map_by_tables (entries_of from es) (entries_of to es) (letters_of es) (length es) p end forward
