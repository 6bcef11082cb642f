-- Tables that are filled: what stands in them when elements were put in, one after the other. Assumes nothing.
use Rattle.std.specs.Prelude.{ℕ, ◌+◌, ◌-◌, ◌≤◌, ◌<◌, Bool, true, false, cond, List, [], ◌∷◌, reverse, ◌≡◌, length, set, replicate}
use Rattle.std.proofs.lemmas.List.Edits.{sets}
use Rattle.refusals.specs.Numbers.{most_segments, most_starts, most_bases}
use Rattle.refusals.specs.Outcome.{Ok, Err, Outcome}
use Rattle.cigar.specs.Elements.{Element}
use Rattle.cigar.specs.Text.{elements_in}
use Rattle.segments.specs.Tables.{Tables, tables}
use Rattle.records.specs.Records.{Record}
use Rattle.transcript.specs.Building.{elements_after, elements_of, numbers_after, numbers_of}
use Rattle.reading.specs.Reading.{between, read_next, Exons}
use Rattle.reading.specs.Tallies.{one_on}
use Rattle.reading.specs.declared.Sums.{Sums}

-- ---- tables

-- tables are as long as they are to be
pub record Long (a : Tables) : Type 0 where
  pub genome_long : length a.genome ≡ most_starts
  pub transcript_long : length a.transcript ≡ most_starts
  pub letters_long : length a.letters ≡ most_segments

-- one segment is put in, which begins at s
abbrev pub put : Tables → Sums → ℕ → Tables
put a s letter = tables (set a.genome s.count s.genome) (set a.transcript s.count s.transcript) (set a.letters s.count letter)

-- elements are put in one after the other, of which the first begins at s
unfoldable pub fill : Tables → Sums → List Element → Tables
fill a s [] = a
fill a s (x ∷ xs) = fill (put a s x.letter) (one_on s x) xs

-- the totals are put behind the last segment, and 0 at the places that are not used
abbrev pub tables_finished : Tables → Sums → Tables
tables_finished a s =
    tables (sets (set a.genome s.count s.genome) (s.count + 1) (replicate (most_starts - (s.count + 1)) 0))
    (sets (set a.transcript s.count s.transcript) (s.count + 1) (replicate (most_starts - (s.count + 1)) 0))
    (sets a.letters s.count (replicate (most_segments - s.count) 0))

-- ---- the order of the strand

-- a text's elements in genomic order
abbrev pub ordered : Bool → List Element → List Element
ordered forward es = cond forward es (reverse es)

-- where an element begins that goes from `at` to `after` along a text, whose elements go from `from` to `to`: on strand -1 it begins as far after `from` as it ends before `to`
abbrev pub turned_on : Bool → Sums → Sums → Sums → Sums → Sums
turned_on true from to at after = at
turned_on false from to at after = record {
  count = from.count + (to.count - after.count);
  genome = from.genome + (to.genome - after.genome);
  transcript = from.transcript + (to.transcript - after.transcript);
}

-- ---- elements that were accepted

-- the gap before the record r, and its elements
abbrev pub next_elements : Bool → ℕ → Record → Record → List Element
next_elements forward used p r = between p r ∷ ordered forward (elements_in (read_next used r))

-- the elements of records after one that ends at e, none where they are refused
abbrev pub elements_past : Bool → ℕ → Exons → List Element
elements_past forward e (Ok xs) = elements_after forward e xs
elements_past forward e (Err k) = []

-- the elements of all records, none where they are refused
abbrev pub elements_all : Bool → Exons → List Element
elements_all forward (Ok xs) = elements_of forward xs
elements_all forward (Err k) = []

-- their exon numbers: of records after one that has so many before it, and of all
abbrev pub numbers_past : Bool → ℕ → Exons → List ℕ
numbers_past forward before (Ok xs) = numbers_after forward before xs
numbers_past forward before (Err k) = []

abbrev pub numbers_all : Bool → Exons → List ℕ
numbers_all forward (Ok xs) = numbers_of forward xs
numbers_all forward (Err k) = []

-- ---- sums

-- a goes no further than b, on no side
pub record UpTo (a b : Sums) : Type 0 where
  pub count_up : a.count ≤ b.count
  pub genome_up : a.genome ≤ b.genome
  pub transcript_up : a.transcript ≤ b.transcript

-- a segment that begins at a is one of those that go to b
pub record Before (a b : Sums) : Type 0 where
  pub count_below : a.count < b.count
  pub genome_up : a.genome ≤ b.genome
  pub transcript_up : a.transcript ≤ b.transcript

-- the tables have room for what goes to s
pub record SmallSums (s : Sums) : Type 0 where
  pub few : s.count ≤ most_segments
  pub genome_small : s.genome ≤ most_bases
  pub transcript_small : s.transcript ≤ most_bases

-- what was tallied is no refusal, and the tables have room for it
abbrev pub SmallTally : Outcome Sums → Type 0
SmallTally (Ok s) = SmallSums s
SmallTally (Err k) = ⊥
