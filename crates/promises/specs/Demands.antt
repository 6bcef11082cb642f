-- Demands 2 and 3, as what is asked of a mapper. Assumes nothing.
--     Demand2, Demand2Built    each base of an exon, and of an intron between exons, has its HGVS name and its exon number and comes back from the name: of what holds together, and of what builds
--     BuiltSpans                 what builds spans its records' bounds
--     Demand3, Demand3Narrow   records added at the ends change no answer but for the exon numbers, which move up by the records added upstream; the same where records span their bounds, of bases alone
use Rattle.std.specs.Prelude.{ℕ, ◌+◌, ◌<◌, Bool, true, false, List, [], ◌∷◌, ◌++◌, map, ◌≡◌, ℤ, pos, ◌+ℤ◌, length, ◌≤ℤ◌, ◌<ℤ◌, Some, None, Option}
use Rattle.refusals.specs.Outcome.{Outcome, Ok, Answered, through}
use Rattle.whole.specs.Whole.{eq_z}
use Rattle.cigar.specs.Elements.{Element, genome, transcript, total}
use Rattle.cigar.specs.Text.{elements_in}
use Rattle.cigar.specs.Read.{read_text}
use Rattle.records.specs.Records.{Record}
use Rattle.transcript.specs.Transcript.{Transcript, genome_length, transcript_length}
use Rattle.transcript.specs.Transcript.Cds.{cds}
use Rattle.transcript.specs.Transcript.Source.{aligned}
use Rattle.transcript.specs.Building.{build}
use Rattle.judging.specs.Input.{Input}
use Rattle.judging.specs.Judging.{Made, judge_input}
use Rattle.holding.specs.Holding.{Lent, holds, source_of}
use Rattle.positions.specs.Positions.{Interval, each, NAsked, CAsked, GPosition, NPosition, CPosition, asks_n, asks_c}
use Rattle.positions.specs.Answers.{Mark, certain, uncertain, unmarked, Marked, Answer, certainly}
use Rattle.coding.specs.Coding.{map_n_to_c, map_c_to_n}
use Rattle.spots.specs.Mapping.{map_g_to_n, map_n_to_g}
use Rattle.mapper.specs.Chains.{map_g_to_c, map_c_to_g}
use Rattle.promises.specs.Bases.{Name, n_name, c_name, Matched, exon_name, InIntron, place_before, place_after, upstream_place, downstream_place, intron_name, Numbering, by_elements, ExonNumbers, exon_base_numbers, intron_base_numbers}

-- ---- a mapper

-- what a mapper answers to the six questions about a transcript; the first argument says whether it is strict
pub record Mapper : Type 0 where
  pub g_to_n : Bool → Transcript → Interval ℤ → Answer NPosition
  pub n_to_g : Bool → Transcript → Interval NAsked → Answer GPosition
  pub n_to_c : Bool → Transcript → Interval NAsked → Answer CPosition
  pub c_to_n : Bool → Transcript → Interval CAsked → Answer NPosition
  pub g_to_c : Bool → Transcript → Interval ℤ → Answer CPosition
  pub c_to_g : Bool → Transcript → Interval CAsked → Answer GPosition

-- the one that the definitions of the house give
abbrev pub ours : Mapper
ours = record {
  g_to_n = map_g_to_n;
  n_to_g = map_n_to_g;
  n_to_c = λ strict t. map_n_to_c strict (transcript_length t) t.coding;
  c_to_n = λ strict t. map_c_to_n strict (transcript_length t) t.coding;
  g_to_c = map_g_to_c;
  c_to_g = map_c_to_g;
}

abbrev pub strict : Bool
strict = true

-- ---- building

-- the transcript of what was made
abbrev pub made_of : Made → Transcript
made_of made = build made.forward made.exon_list made.coding

-- building refuses, or answers a transcript
abbrev pub building : Input → Outcome Transcript
building x = through made_of (judge_input x)

-- the transcript t is built from the input x
abbrev pub Builds : Input → Transcript → Type 0
Builds x t = building x ≡ Ok t

-- ---- demand 2

-- an interval of one position
abbrev pub single : {P : Type 0} → P → Interval P
single a = record { from = a; to = a }

-- the base at place p, as a g. number, asked and answered; a name, as an n. and as a c. interval
abbrev pub g_number : Transcript → ℕ → ℤ
g_number t p = pos (p + t.first + 1)

abbrev pub asked_at : Transcript → ℕ → Interval ℤ
asked_at t p = single (g_number t p)

abbrev pub g_at : Transcript → ℕ → Interval GPosition
g_at t p = single (record { base = g_number t p })

abbrev pub n_at : Name → Interval NPosition
n_at x = single (n_name x)

abbrev pub c_at : ℕ → ℕ → Name → Interval CPosition
c_at s e x = single (c_name s e x)

-- in strict mode the base at place p is answered with the name x, certainly, and the name, asked again, with the base: in n., and in c. where there is a CDS. Both ends have one exon number
pub record Named (m : Mapper) (t : Transcript) (p : ℕ) (x : Name) (k : ExonNumbers) : Type 0 where
  pub g_to_n : m.g_to_n strict t (asked_at t p) ≡ certainly (single k.of_base) (n_at x)
  pub n_to_g : m.n_to_g strict t (each asks_n (n_at x)) ≡ certainly (single k.of_name) (g_at t p)
  pub g_to_c : (s e : ℕ) → t.coding ≡ cds s e → m.g_to_c strict t (asked_at t p) ≡ certainly (single k.of_base) (c_at s e x)
  pub c_to_g : (s e : ℕ) → t.coding ≡ cds s e → m.c_to_g strict t (each asks_c (c_at s e x)) ≡ certainly (single k.of_name) (g_at t p)

-- there are exon bases at u, upstream, and at d, downstream, and the intron base at place p has the name that counts from the nearer of the two, with the numbers of that side
pub record FromNearest (has : ℕ → Name → ExonNumbers → Type 0) (t : Transcript) (n : Numbering t) (p u d : ℕ) (b : InIntron t p) : Type 0 where
  pub up : Matched t u
  pub down : Matched t d
  pub named : has p (intron_name p up down) (intron_base_numbers n b up down)

-- each base in a matched column has the name of an exon base, and each base of an intron counts from the nearest exon base; `has` says what it is to have a name with its numbers
pub record BasesNamed (has : ℕ → Name → ExonNumbers → Type 0) (t : Transcript) (n : Numbering t) : Type 0 where
  pub exon_base : (p : ℕ) (b : Matched t p) → has p (exon_name b) (exon_base_numbers n b)
  pub intron_base : (p : ℕ) (b : InIntron t p) → FromNearest has t n p (upstream_place b) (downstream_place b) b

-- of every transcript that is lent and holds together, wherever it comes from
abbrev pub Demand2 : Mapper → Type 0
Demand2 m = (x : Lent) (t : Transcript) → holds x ≡ true → source_of x ≡ aligned t → BasesNamed (Named m t) t (by_elements t)

-- ---- the exon numbers of what builds

-- the number of a record, with so many on its left and so many on its right, along the genome: counted from 1 in transcript order, which on strand -1 begins on the right
abbrev pub counted : Bool → ℕ → ℕ → ℕ
counted true left right = left + 1
counted false left right = right + 1

-- the place z of the genome lies in a record, which has the number k
pub record InRecord (forward : Bool) (rs : List Record) (z : ℤ) (k : ℕ) : Type 0 where
  pub left : List Record
  pub own : Record
  pub right : List Record
  pub stands : rs ≡ left ++ own ∷ right
  pub from : own.alt_start ≤ℤ z
  pub to : z <ℤ own.alt_end
  pub number : k ≡ counted forward (length left) (length right)

-- it lies between two neighbouring records, of which the left one has the number k and the right one the number l
pub record BetweenRecords (forward : Bool) (rs : List Record) (z : ℤ) (k l : ℕ) : Type 0 where
  pub left : List Record
  pub before : Record
  pub after : Record
  pub right : List Record
  pub stands : rs ≡ left ++ before ∷ after ∷ right
  pub from : before.alt_end ≤ℤ z
  pub to : z <ℤ after.alt_start
  pub left_number : k ≡ counted forward (length left) (length right + 1)
  pub right_number : l ≡ counted forward (length left + 1) (length right)

-- what is on the two sides of a base of an intron: within a record that record on both, and between two neighbours these
pub data Sides (forward : Bool) (rs : List Record) (z : ℤ) (k l : ℕ) : Type 0 where
  within : InRecord forward rs z k → k ≡ l → Sides forward rs z k l
  between : BetweenRecords forward rs z k l → Sides forward rs z k l

-- a record that is not empty
abbrev pub Filled : Record → Type 0
Filled r = r.alt_start <ℤ r.alt_end

-- each base in a matched column has the number of the record that it lies in, and an intron base those of what is on its two sides
pub record CountsRecords (x : Input) (t : Transcript) (n : Numbering t) : Type 0 where
  pub exon_base : (p : ℕ) (b : Matched t p) → InRecord (eq_z x.strand (pos 1)) x.records (pos (p + t.first)) (n.of_exon p b)
  pub intron_base : (p : ℕ) (b : InIntron t p) → Sides (eq_z x.strand (pos 1)) x.records (pos (p + t.first)) (n.on_left p b) (n.on_right p b)
  -- between two neighbours that are not empty these are the numbers of the exon bases next to the intron, from which names count
  pub gap_base : (p : ℕ) (b : InIntron t p) (k l : ℕ) (g : BetweenRecords (eq_z x.strand (pos 1)) x.records (pos (p + t.first)) k l) → Filled g.before → Filled g.after
      → (u : Matched t (place_before b)) (d : Matched t (place_after b)) → (n.on_left p b ≡ n.of_exon (place_before b) u) × (n.on_right p b ≡ n.of_exon (place_after b) d)

-- of every transcript that builds: the numbers are those of its records
pub record NamedByRecords (has : ℕ → Name → ExonNumbers → Type 0) (x : Input) (t : Transcript) : Type 0 where
  pub numbering : Numbering t
  pub counts : CountsRecords x t numbering
  pub named : BasesNamed has t numbering

abbrev pub Demand2Built : Mapper → Type 0
Demand2Built m = (x : Input) (t : Transcript) → Builds x t → NamedByRecords (Named m t) x t

-- ---- demand 3

-- the elements of a record's CIGAR
abbrev pub cigar_of : Record → List Element
cigar_of r = elements_in (read_text r.cigar)

-- each record's CIGAR spans exactly its genome bounds
abbrev pub AllSpan : List Record → Type 0
AllSpan [] = Unit {0}
AllSpan (r ∷ rs) = (r.alt_start +ℤ pos (total genome (cigar_of r)) ≡ r.alt_end) × AllSpan rs

-- the transcript bases of records
unfoldable pub bases_of : List Record → ℕ
bases_of [] = 0
bases_of (r ∷ rs) = total transcript (cigar_of r) + bases_of rs

-- the transcript bases that records add upstream: on strand 1 those on the left, along the genome, and on strand -1 those on the right
abbrev pub added_upstream : Bool → List Record → List Record → ℕ
added_upstream true left right = bases_of left
added_upstream false left right = bases_of right

-- a CDS bound, moved up
abbrev pub moved_up : ℕ → Option ℤ → Option ℤ
moved_up n (Some z) = Some (z +ℤ pos n)
moved_up n None = None

-- what stays of a record when its transcript is lengthened: its genome bounds and its CIGAR
pub record KeptOfRecord : Type 0 where
  pub alt_start : ℤ
  pub alt_end : ℤ
  pub cigar : List ℕ

abbrev pub kept : Record → KeptOfRecord
kept r = record { alt_start = r.alt_start; alt_end = r.alt_end; cigar = r.cigar }

-- y is x with records added at either end or both, along the genome, and its CDS bounds moved up by the transcript bases that are added upstream.
-- Its own records keep their genome bounds and CIGARs; their transcript bounds and `ord` are whatever building accepts
pub record Lengthens (x y : Input) : Type 0 where
  pub left : List Record
  pub own : List Record
  pub right : List Record
  pub stands : y.records ≡ left ++ (own ++ right)
  pub own_kept : map kept own ≡ map kept x.records
  pub strand_kept : y.strand ≡ x.strand
  pub added : ℕ
  pub upstream : added ≡ added_upstream (eq_z x.strand (pos 1)) left right
  pub start_moved : y.start ≡ moved_up added x.start
  pub end_moved : y.end ≡ moved_up added x.end

-- the records that are added upstream
abbrev pub records_upstream : Bool → List Record → List Record → ℕ
records_upstream true left right = length left
records_upstream false left right = length right

abbrev pub records_added : {x y : Input} → Lengthens x y → ℕ
records_added {x} l = records_upstream (eq_z x.strand (pos 1)) l.left l.right

-- an answer with its exon numbers moved up by n, and all else as it is
abbrev pub mark_up : ℕ → Mark → Mark
mark_up n (certain exons) = certain (each (λ (k : ℕ). k + n) exons)
mark_up n (uncertain exons) = uncertain (each (λ (k : ℕ). k + n) exons)
mark_up n unmarked = unmarked

abbrev pub answer_up : {P : Type 0} → ℕ → Answer P → Answer P
answer_up {P} n = through (λ (a : Marked P). record { mark = mark_up n a.mark; interval = a.interval })

-- in strict mode u keeps the answers of t, with the exon numbers moved up by n: the c. answer of each g. interval, and the g. answer of each c. interval, certainty included
pub record Keeps (m : Mapper) (n : ℕ) (t u : Transcript) : Type 0 where
  pub g_to_c : (i : Interval ℤ) → Answered (m.g_to_c strict t i) → m.g_to_c strict u i ≡ answer_up n (m.g_to_c strict t i)
  pub c_to_g : (i : Interval CAsked) → Answered (m.c_to_g strict t i) → m.c_to_g strict u i ≡ answer_up n (m.c_to_g strict t i)

-- of every transcript that builds and every lengthened one that builds
abbrev pub Demand3 : Mapper → Type 0
Demand3 m = (x y : Input) (t u : Transcript) → Builds x t → Builds y u → (l : Lengthens x y) → Keeps m (records_added l) t u

-- of every transcript that builds, each record's CIGAR spans exactly its bounds
abbrev pub BuiltSpans : Type 0
BuiltSpans = (x : Input) (t : Transcript) → Builds x t → AllSpan x.records

-- ---- demand 3 in its narrower words

-- z is the g. number of a base of the span of t: its place is 0 to the genome length, exclusive
abbrev pub BaseOf : Transcript → ℤ → Type 0
BaseOf t z = (p : ℕ) × (z ≡ g_number t p) × (p < genome_length t)

-- the same as `Keeps`, where the ends of a g. interval are bases of t's span
pub record KeepsBases (m : Mapper) (n : ℕ) (t u : Transcript) : Type 0 where
  pub g_to_c : (i : Interval ℤ) → BaseOf t i.from → BaseOf t i.to → Answered (m.g_to_c strict t i) → m.g_to_c strict u i ≡ answer_up n (m.g_to_c strict t i)
  pub c_to_g : (i : Interval CAsked) → Answered (m.c_to_g strict t i) → m.c_to_g strict u i ≡ answer_up n (m.c_to_g strict t i)

-- where each record's CIGAR spans exactly its bounds; the shorter's records are among the longer's
abbrev pub Demand3Narrow : Mapper → Type 0
Demand3Narrow m = (x y : Input) (t u : Transcript) → Builds x t → Builds y u → (l : Lengthens x y) → AllSpan y.records → KeepsBases m (records_added l) t u
