-- The CIGARs of the records as elements, or the first of 3, 7, 8 and 32: per record its CIGAR's size, the gap before it, its elements in text order, and then how far they go. Assumes nothing.
use Rattle.std.specs.Prelude.{ℕ, ◌+◌, ◌-◌, Bool, List, [], ◌∷◌, eqb, ltb, ℤ, pos, nat_abs, ◌+ℤ◌, length, if◌then◌else◌}
use Rattle.refusals.specs.Numbers.{most_text, most_segments}
use Rattle.refusals.specs.declared.Refusal.TheVariants.{TooMuch, NotSpanning}
use Rattle.refusals.specs.Outcome.{Outcome, Ok, Err, and_then, both}
use Rattle.whole.specs.Whole.{eq_z}
use Rattle.cigar.specs.Elements.{Element, letter_n, genome, total}
use Rattle.cigar.specs.Text.{Reading, read_all}
use Rattle.records.specs.Records.{Record}
use Rattle.transcript.specs.Building.{Exon}

-- a record's genome bounds, which are not negative: 4 came first
abbrev pub genome_start_of : Record → ℕ
genome_start_of r = nat_abs r.alt_start

abbrev pub genome_end_of : Record → ℕ
genome_end_of r = nat_abs r.alt_end

-- the N between two records
abbrev pub gap_of : Record → Record → ℕ
gap_of p r = genome_start_of r - genome_end_of p

abbrev pub between : Record → Record → Element
between p r = record { count = gap_of p r; letter = letter_n }

-- a record whose elements were read
abbrev pub exon_of : Record → List Element → Exon
exon_of r es = record { alt_start = genome_start_of r; alt_end = genome_end_of r; parts = es }

-- all records, or the first refusal
abbrev pub Exons : Type 0
Exons = Outcome (List Exon)

-- a length along the genome is that of the bounds, and a record's elements have that length
abbrev pub spans : ℤ → ℤ → ℕ → Bool
spans start end n = eq_z (start +ℤ pos n) end

abbrev pub is_spanned : Record → List Element → Bool
is_spanned r es = spans r.alt_start r.alt_end (total genome es)

-- a record's elements, or 32 where its CIGAR's genome length differs from its bounds
unfoldable pub spanning : Record → List Element → Reading
spanning r es = if is_spanned r es then Ok es else Err NotSpanning

abbrev pub spanned : Record → Reading → Reading
spanned r read = and_then read (spanning r)

-- after a record's elements are read comes 32, and then what follows it: the first refusal counts
abbrev pub followed_by : Record → Reading → (ℕ → Exons) → Exons
followed_by r read next = and_then read (λ es. both (λ own others. exon_of r own ∷ others) (spanning r es) (next (length es)))

-- the first record: 3 where its CIGAR is over 4,096 bytes
unfoldable pub read_first : Record → Reading
read_first r =
    if ltb most_text (length r.cigar) then Err TooMuch
    else read_all most_segments r.cigar

-- a record after others, which have `used` segments: 3 where its CIGAR is over 4,096 bytes, or where there is no room for the gap before it
unfoldable pub read_next : ℕ → Record → Reading
read_next used r =
    if ltb most_text (length r.cigar) then Err TooMuch
    else if eqb used most_segments then Err TooMuch
    else read_all (most_segments - (used + 1)) r.cigar

-- the records after others
unfoldable pub exons_after : ℕ → List Record → Exons
exons_after used [] = Ok []
exons_after used (r ∷ rs) = followed_by r (read_next used r) (λ n. exons_after (used + 1 + n) rs)

-- all records
unfoldable pub exons_of : List Record → Exons
exons_of [] = Ok []
exons_of (r ∷ rs) = followed_by r (read_first r) (λ n. exons_after n rs)
