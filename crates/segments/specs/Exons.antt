-- Exon numbers: each segment has the number of its record, counted from 1 in transcript order, and a gap between records has the number of the record before it along the genome. Assumes nothing.
use Rattle.std.specs.Prelude.{ℕ, zero, suc, ◌+◌, ◌≤◌, Bool, cond, ◌&&◌, ◌||◌, List, [], ◌∷◌, eqb, ltb, get_or, if◌then◌else◌}
use Rattle.cigar.specs.Elements.{letter_n}
use Rattle.segments.specs.Tables.{all_below}
use Rattle.segments.specs.Places.{Spot, Edge, no_edge, left_edge, right_edge}

-- along the genome the numbers begin with this, and behind the last segment stands that, where there are so many records
abbrev pub first_number : Bool → ℕ → ℕ
first_number forward records = cond forward 1 records

abbrev pub last_number : Bool → ℕ → ℕ
last_number forward records = cond forward records 1

-- the number of segment i of n, or what stands behind the last
abbrev pub number_at : List ℕ → ℕ → ℕ → ℕ → ℕ
number_at exons n behind i = if ltb i n then get_or exons i 0 else behind

-- the numbers of m segments from the segment i on
unfoldable pub numbers_from : List ℕ → ℕ → ℕ → List ℕ
numbers_from exons i zero = []
numbers_from exons i (suc m) = get_or exons i 0 ∷ numbers_from exons (i + 1) m

-- the numbers of n segments
abbrev pub read_numbers : List ℕ → ℕ → List ℕ
read_numbers exons n = numbers_from exons 0 n

-- after a segment of the letter c the number k stays, or m is the next in the direction of the strand: after an N alone, which then is a gap between records
unfoldable pub goes_on : Bool → ℕ → ℕ → ℕ → Bool
goes_on forward c k m = eqb k m || (eqb c letter_n && eqb (cond forward m k) (cond forward k m + 1))

abbrev pub goes_on_at : Bool → List ℕ → (ℕ → ℕ) → ℕ → Bool
goes_on_at forward letters number i = goes_on forward (get_or letters i 0) (number i) (number (i + 1))

-- the numbers of n segments, from the genomic left, run from 1 to the record count, on strand -1 from it back to 1, stepping by one across each gap and nowhere else
unfoldable pub numbers_hold : Bool → ℕ → List ℕ → List ℕ → ℕ → Bool
numbers_hold forward records letters exons n =
    let number = number_at exons n (last_number forward records) in
    eqb (number 0) (first_number forward records) && all_below (goes_on_at forward letters number) n

-- a number that an exon can have where there are so many records
pub record IsExon (records k : ℕ) : Type 0 where
  pub above : 1 ≤ k
  pub below : k ≤ records

-- ---- the number of a place

-- from the genome: that of its segment; of an N, that of the side whose edge the place counts from
abbrev pub numbered_from : Edge → ℕ → ℕ
numbered_from no_edge i = i
numbered_from left_edge i = i
numbered_from right_edge i = i + 1

unfoldable pub exon_found : (ℕ → ℕ) → Spot → ℕ
exon_found number a = number (numbered_from a.edge a.number)

-- from the transcript: that of its segment; an N counts as what is before it in transcript order, which on strand -1 stands after it along the genome
abbrev pub upstream_of : Bool → Edge → ℕ → ℕ
upstream_of forward no_edge i = i
upstream_of forward left_edge i = cond forward i (i + 1)
upstream_of forward right_edge i = cond forward i (i + 1)

unfoldable pub exon_chosen : Bool → (ℕ → ℕ) → Spot → ℕ
exon_chosen forward number a = number (upstream_of forward a.edge a.number)
