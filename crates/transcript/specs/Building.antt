-- The transcript that records make. Assumes nothing.
use Rattle.std.specs.Prelude.{ℕ, ◌+◌, ◌-◌, Bool, cond, List, [], ◌∷◌, ◌++◌, reverse, length, replicate}
use Rattle.cigar.specs.Elements.{Element, letter_n}
use Rattle.transcript.specs.Transcript.{Transcript, Cds}

-- one record: its genome bounds, and its elements in transcript direction
pub record Exon : Type 0 where
  pub alt_start : ℕ
  pub alt_end : ℕ
  pub parts : List Element

-- a record's elements in genomic order: on strand -1 they are reversed
unfoldable pub parts_of : Bool → Exon → List Element
parts_of forward r = cond forward r.parts (reverse r.parts)

-- the N between a record and the one before it, even when its length is 0
abbrev pub gap : ℕ → Exon → Element
gap previous_end r = record { count = r.alt_start - previous_end; letter = letter_n }

-- the elements of the records after one that ends at e
unfoldable pub elements_after : Bool → ℕ → List Exon → List Element
elements_after forward e [] = []
elements_after forward e (r ∷ rs) = gap e r ∷ (parts_of forward r ++ elements_after forward r.alt_end rs)

-- the elements of all records, which stand in genomic order
unfoldable pub elements_of : Bool → List Exon → List Element
elements_of forward [] = []
elements_of forward (r ∷ rs) = parts_of forward r ++ elements_after forward r.alt_end rs

-- the number of the record that has so many before it and so many after it, along the genome: counted from 1 in transcript order
abbrev pub numbered_by : Bool → ℕ → ℕ → ℕ
numbered_by forward before after = cond forward (before + 1) (after + 1)

-- the exon numbers of the elements of the records after one that has so many before it: the gap has that record's number, and each record its own
unfoldable pub numbers_after : Bool → ℕ → List Exon → List ℕ
numbers_after forward before [] = []
numbers_after forward before (r ∷ rs) =
    numbered_by forward before (length (r ∷ rs)) ∷ (replicate (length (parts_of forward r)) (numbered_by forward (before + 1) (length rs)) ++ numbers_after forward (before + 1) rs)

-- the exon numbers of the elements of all records
unfoldable pub numbers_of : Bool → List Exon → List ℕ
numbers_of forward [] = []
numbers_of forward (r ∷ rs) = replicate (length (parts_of forward r)) (numbered_by forward 0 (length rs)) ++ numbers_after forward 0 rs

unfoldable pub first_start : List Exon → ℕ
first_start [] = 0
first_start (r ∷ rs) = r.alt_start

unfoldable pub build : Bool → List Exon → Cds → Transcript
build forward rs c = record { forward = forward; first = first_start rs; elements = elements_of forward rs; numbers = numbers_of forward rs; records = length rs; coding = c }
