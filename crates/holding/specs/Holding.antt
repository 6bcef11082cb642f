-- Refusal 23: when a transcript that a host lends holds together, and what it then stands for. Assumes nothing.
use Rattle.std.specs.Prelude.{ℕ, ◌+◌, Bool, false, ◌&&◌, ◌||◌, List, leb, pos, negsuc, nat_abs, get_or, if◌then◌else◌}
use Rattle.std.specs.Int.Signed.{le_z}
use Rattle.refusals.specs.Numbers.{most_records, most_segments, most_bases}
use Rattle.refusals.specs.declared.Refusal.TheVariants.{NotTogether}
use Rattle.refusals.specs.Outcome.{Outcome, Err}
use Rattle.whole.specs.Whole.{eq_z}
use Rattle.segments.specs.Tables.{Tables, tables, segments_hold, read}
use Rattle.segments.specs.Exons.{read_numbers, numbers_hold}
use Rattle.transcript.specs.Transcript.{Transcript, Source, Cds}
use Rattle.transcript.specs.Transcript.Cds.{no_cds, cds}
use Rattle.transcript.specs.Transcript.Source.{aligned, length_only}
use Rattle.transcript.specs.declared.Head.{Head}

-- the numbers of a head that name a kind, a strand and whether both CDS bounds are given
abbrev pub of_records : Head → Bool
of_records h = eq_z h.kind (pos 0)

abbrev pub of_length : Head → Bool
of_length h = eq_z h.kind (pos 1)

abbrev pub is_forward : Head → Bool
is_forward h = eq_z h.strand (pos 1)

abbrev pub is_backward : Head → Bool
is_backward h = eq_z h.strand (negsuc 0)

abbrev pub both_given : Head → Bool
both_given h = eq_z h.bits (pos 3)

-- how many segments there are
abbrev pub segments_in : Head → ℕ
segments_in h = nat_abs h.count

-- how many records there are
abbrev pub records_in : Head → ℕ
records_in h = nat_abs h.records

-- what is asked of the head alone: the strand is 1 or -1, there are 1 to 2,048 segments and 1 to 512 records, the first start is not negative
abbrev pub head_holds : Head → Bool
head_holds h =
    (is_forward h || is_backward h)
    && (le_z (pos 1) h.count && le_z h.count (pos most_segments))
    && (le_z (pos 1) h.records && le_z h.records (pos most_records))
    && le_z (pos 0) h.first

-- neither CDS bound is given, or both are (11) and 0 <= start <= end <= length (12)
unfoldable pub cds_holds : Head → ℕ → Bool
cds_holds h len = eq_z h.bits (pos 0) || (both_given h && (le_z (pos 0) h.start && le_z h.start h.end && le_z h.end (pos len)))

-- neither the first start plus the genome length nor the transcript length is above the largest (9)
abbrev pub totals_hold : ℕ → ℕ → ℕ → Bool
totals_hold first genome transcript = leb (first + genome) most_bases && leb transcript most_bases

-- ---- what a host lends for a transcript: its head, its tables and its exon numbers

pub record Lent : Type 0 where
  pub head : Head
  pub tables : Tables
  pub exons : List ℕ

abbrev pub lent : Head → List ℕ → List ℕ → List ℕ → List ℕ → Lent
lent h g t l e = record { head = h; tables = tables g t l; exons = e }

abbrev pub segments_of : Lent → ℕ
segments_of x = segments_in x.head

-- the last entries of the tables
abbrev pub genome_end : Lent → ℕ
genome_end x = get_or x.tables.genome (segments_of x) 0

abbrev pub transcript_end : Lent → ℕ
transcript_end x = get_or x.tables.transcript (segments_of x) 0

-- the exon numbers of its segments hold
abbrev pub exons_hold : Lent → Bool
exons_hold x = numbers_hold (is_forward x.head) (records_in x.head) x.tables.letters x.exons (segments_of x)

-- the head's own tests pass, the segments hold together and their exon numbers do, and none of 9, 11, 12 applies
unfoldable pub records_hold : Lent → Bool
records_hold x =
    head_holds x.head
    && (segments_hold x.tables (segments_of x) && exons_hold x)
    && totals_hold (nat_abs x.head.first) (genome_end x) (transcript_end x)
    && cds_holds x.head (transcript_end x)

-- none of 4, 9, 11, 12 applies
unfoldable pub length_holds : Head → Bool
length_holds h = le_z (pos 0) h.length && le_z h.length (pos most_bases) && cds_holds h (nat_abs h.length)

-- a transcript of either kind holds together
unfoldable pub holds : Lent → Bool
holds x =
    if of_records x.head then records_hold x
    else if of_length x.head then length_holds x.head
    else false

-- ---- what it stands for, where it holds together

abbrev pub head_cds : Head → Cds
head_cds h = if both_given h then cds (nat_abs h.start) (nat_abs h.end) else no_cds

abbrev pub transcript_of : Lent → Transcript
transcript_of x = record { forward = is_forward x.head; first = nat_abs x.head.first; elements = read x.tables (segments_of x); numbers = read_numbers x.exons (segments_of x); records = records_in x.head; coding = head_cds x.head }

unfoldable pub source_of : Lent → Source
source_of x =
    if of_records x.head then aligned (transcript_of x)
    else length_only (nat_abs x.head.length) (head_cds x.head)

-- a question to what is lent: 23 where it does not hold together, before anything else and once a question, also in chains
unfoldable pub checked : {A : Type 0} → Lent → (Source → Outcome A) → Outcome A
checked x ask = if holds x then ask (source_of x) else Err NotTogether
