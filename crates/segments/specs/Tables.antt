-- The tables of a transcript: when their segments hold together, the elements that they stand for, and the tables that elements make.
-- A table is the list of its entries. Segment i begins at entry i of a table of starts and ends at entry i + 1; entries past the last segment's end are not looked at. Assumes nothing.
use Rattle.std.specs.Prelude.{ℕ, zero, suc, ◌+◌, ◌-◌, ◌<◌, max, Bool, true, ◌&&◌, List, [], ◌∷◌, ◌++◌, ◌≡◌, get_or, length, replicate, eqb, leb}
use Rattle.refusals.specs.Numbers.{most_segments, most_starts}
use Rattle.cigar.specs.Elements.{Element, Side, Kind, is_letter, kind_of, genome, transcript}
use Rattle.cigar.specs.Read.{letters_of}
use Rattle.cigar.specs.Elements.Kind.{matches, inserts, deletes, skips}
use Rattle.finding.specs.Finding.{Rising}

-- the starts on the genome and on the transcript, and the letters' bytes
pub record Tables : Type 0 where
  pub genome : List ℕ
  pub transcript : List ℕ
  pub letters : List ℕ

abbrev pub tables : List ℕ → List ℕ → List ℕ → Tables
tables g t l = record { genome = g; transcript = t; letters = l }

-- ---- whether segments hold together

-- a side that the letter does not advance has the step 0, and two sides that it advances have the same step
abbrev pub steps_of : Kind → ℕ → ℕ → Bool
steps_of matches dg dt = eqb dg dt
steps_of inserts dg dt = eqb dt 0
steps_of deletes dg dt = eqb dg 0
steps_of skips dg dt = eqb dt 0

-- a segment of the letter c whose genome starts go from g₀ to g₁ and its transcript starts from t₀ to t₁: no step is negative, and they are the letter's
unfoldable pub step_right : ℕ → ℕ → ℕ → ℕ → ℕ → Bool
step_right c g₀ g₁ t₀ t₁ = leb g₀ g₁ && leb t₀ t₁ && steps_of (kind_of c) (g₁ - g₀) (t₁ - t₀)

-- f is true at each number below n
unfoldable pub all_below : (ℕ → Bool) → ℕ → Bool
all_below f zero = true
all_below f (suc k) = all_below f k && f k

-- segment i's letter is one of the six
abbrev pub known_at : List ℕ → ℕ → Bool
known_at letters i = is_letter (get_or letters i 0)

-- segment i's steps are right
abbrev pub right_at : Tables → ℕ → Bool
right_at a i = step_right (get_or a.letters i 0) (get_or a.genome i 0) (get_or a.genome (i + 1) 0) (get_or a.transcript i 0) (get_or a.transcript (i + 1) 0)

-- n segments hold together: starts begin at 0 and 0, each letter is one of the six, each step is right
unfoldable pub segments_hold : Tables → ℕ → Bool
segments_hold a n = eqb (get_or a.genome 0 0) 0 && eqb (get_or a.transcript 0 0) 0 && (all_below (known_at a.letters) n && all_below (right_at a) n)

-- the same as facts, at every index; no start is below the one before it
pub record Holds (a : Tables) (n : ℕ) : Type 0 where
  pub genome_from_0 : get_or a.genome 0 0 ≡ 0
  pub transcript_from_0 : get_or a.transcript 0 0 ≡ 0
  pub letters : (i : ℕ) → i < n → is_letter (get_or a.letters i 0) ≡ true
  pub genome_rises : Rising a.genome n
  pub transcript_rises : Rising a.transcript n
  pub steps : (i : ℕ) → i < n
      → steps_of (kind_of (get_or a.letters i 0)) (get_or a.genome (i + 1) 0 - get_or a.genome i 0) (get_or a.transcript (i + 1) 0 - get_or a.transcript i 0) ≡ true

-- ---- the elements that tables stand for

-- the element of segment i: its count is the larger of its two steps
abbrev pub element_at : Tables → ℕ → Element
element_at a i = record { count = max (get_or a.genome (i + 1) 0 - get_or a.genome i 0) (get_or a.transcript (i + 1) 0 - get_or a.transcript i 0); letter = get_or a.letters i 0 }

-- of m segments from the segment i on
unfoldable pub elements_from : Tables → ℕ → ℕ → List Element
elements_from a i zero = []
elements_from a i (suc m) = element_at a i ∷ elements_from a (i + 1) m

-- the elements that the tables of n segments stand for
abbrev pub read : Tables → ℕ → List Element
read a n = elements_from a 0 n

-- ---- the tables that elements make

-- the entries of one side: the start of each element, when all before them go to f, and then the total
unfoldable pub entries_from : Side → ℕ → List Element → List ℕ
entries_from side f [] = f ∷ []
entries_from side f (x ∷ xs) = f ∷ entries_from side (f + side x) xs

abbrev pub entries_of : Side → List Element → List ℕ
entries_of side es = entries_from side 0 es

-- entries in a table of n places: those that are not used hold 0
unfoldable pub padded : ℕ → List ℕ → List ℕ
padded n entries = entries ++ replicate (n - length entries) 0

abbrev pub tables_of : List Element → Tables
tables_of es = tables (padded most_starts (entries_of genome es)) (padded most_starts (entries_of transcript es)) (padded most_segments (letters_of es))
