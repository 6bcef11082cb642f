-- What a host sees: it hands over numbers and bytes, is told 0, and asks over just the memory that building wrote. Assumes nothing.
--     HostSees             each answer is the mapper's about the transcript that the records, or the card, lay out
--     HostSeesLength      and its answer about a length
--     Host2, Host3        demands 2 and 3 in the numbers that the host is told
use Rattle.std.specs.Prelude.{ℕ, ◌+◌, Bool, List, map, ◌≡◌, ℤ, if◌then◌else◌}
use Rattle.refusals.specs.Numbers.{number}
use Rattle.refusals.specs.declared.Refusal.TheVariants.{NoGenome, Falling}
use Rattle.refusals.specs.Outcome.{Outcome, Ok, Err, and_then, through}
use Rattle.segments.specs.Tables.{Tables}
use Rattle.transcript.specs.Transcript.{Transcript, Cds, genome_length}
use Rattle.transcript.specs.Transcript.Cds.{cds}
use Rattle.transcript.specs.declared.Numbers.{Numbers}
use Rattle.holding.specs.Holding.{Lent}
use Rattle.judging.specs.Input.{Input, input_of}
use Rattle.judging.specs.Judging.{Made, Measured, judge, judge_length}
use Rattle.building.specs.Afterwards.{built_answer, length_answer, tables_after, exons_after}
use Rattle.card.specs.Card.{numbers_in, input_in}
use Rattle.card.specs.Writing.{judge_card}
use Rattle.positions.specs.Answers.{certainly}
use Rattle.coding.specs.Coding.{map_n_to_c, map_c_to_n}
use Rattle.spots.specs.Mapping.{lies_in_bounds}
use Rattle.chaining.specs.Given.{given, codes}
use Rattle.lending.specs.Lending.{head_at}
use Rattle.taking.specs.Taking.{g_asked as asked, n_asked, c_asked}
use Rattle.layout.specs.Layout.{g_laid, n_laid, c_laid, laid, refusal, said_laid}
use Rattle.layout.specs.declared.lay.Answer.{Answer}
use Rattle.layout.specs.declared.lay.Position.{Position}
use Rattle.results.specs.Results.{built_number, built_head}
use Rattle.entry.specs.Told.{told_g_to_n, told_g_to_c, told_n_to_g, told_n_to_c, told_c_to_n, told_c_to_g, told_in_bounds, told_coding, told_steps, told_slots}
use Rattle.worklist.specs.Worklist.{positions_of, never_falls, track_of, steps_of, steps_laid}
use Rattle.worklist.specs.declared.Slot.{Slot}
use Rattle.promises.specs.Bases.{Name, n_name, c_name, ExonNumbers}
use Rattle.promises.specs.Demands.{Mapper, strict, Builds, single, g_number, g_at, n_at, c_at, NamedByRecords, Lengthens, records_added}

-- ---- building

-- a transcript comes from numbers beside the bytes of records (txc_build), or from the bytes of a card (txc_build_card)
pub data Way : Type 0 where
  of_records : Numbers → List ℕ → Way
  of_card : List ℕ → Way

abbrev pub judgment : Way → Outcome Made
judgment (of_records n bytes) = judge n bytes
judgment (of_card bytes) = judge_card bytes

-- building's input, as the bytes lay it out
abbrev pub input : Way → Input
input (of_records n bytes) = input_of n bytes
input (of_card bytes) = input_in bytes (numbers_in bytes)

-- the number that the entry tells
abbrev pub told_building : Way → ℕ
told_building w = built_number (built_answer (judgment w))

-- the lent memory afterwards, whatever it was: the head's numbers, the tables and the exon numbers
abbrev pub written_by : Way → List ℤ → Tables → List ℕ → Lent
written_by w head was exons = record { head = head_at (built_head (built_answer (judgment w)) head); tables = tables_after (judgment w) was; exons = exons_after (judgment w) exons }

-- ---- asking

-- a slot with what g. to n. tells of its position in strict mode
abbrev pub told_slot : Lent → Slot → Slot
told_slot x s = record { position = s.position; answer = told_g_to_n x s.position s.position 0 strict }

-- over x the answer's numbers are those of the mapper m about t; an end of a g. interval that is missing refuses as `given` says
pub record Sees (m : Mapper) (x : Lent) (t : Transcript) : Type 0 where
  pub g_to_n : (a b : ℤ) (missing : ℕ) (s : Bool) → told_g_to_n x a b missing s ≡ laid n_laid (and_then (given (asked a b missing)) (m.g_to_n s t))
  pub g_to_c : (a b : ℤ) (missing : ℕ) (s : Bool) → told_g_to_c x a b missing s ≡ laid c_laid (and_then (given (asked a b missing)) (m.g_to_c s t))
  pub n_to_g : (a o b u : ℤ) (s : Bool) → told_n_to_g x a o b u s ≡ laid g_laid (m.n_to_g s t (n_asked a o b u))
  pub n_to_c : (a o b u : ℤ) (s : Bool) → told_n_to_c x a o b u s ≡ laid c_laid (m.n_to_c s t (n_asked a o b u))
  pub c_to_n : (a o : ℤ) (star : Bool) (b u : ℤ) (starred s : Bool) → told_c_to_n x a o star b u starred s ≡ laid n_laid (m.c_to_n s t (c_asked a o star b u starred))
  pub c_to_g : (a o : ℤ) (star : Bool) (b u : ℤ) (starred s : Bool) → told_c_to_g x a o star b u starred s ≡ laid g_laid (m.c_to_g s t (c_asked a o star b u starred))
  pub in_bounds : (a b : ℤ) (missing : ℕ) → told_in_bounds x a b missing ≡ said_laid (through (lies_in_bounds t.first (genome_length t)) (given (asked a b missing)))
  pub coding : told_coding x ≡ said_laid (Ok (codes t.coding))
  -- a worklist: the steps along the transcript, and in each slot what g. to n. tells of its position in strict mode; 33 for a list that falls, whose slots stay
  pub steps : (list : List Slot) → told_steps x list ≡ steps_laid (if never_falls (positions_of list) then Ok (steps_of (track_of t) (positions_of list)) else Err Falling)
  pub slots : (list : List Slot) → told_slots x list ≡ (if never_falls (positions_of list) then map (told_slot x) list else list)

-- where building tells 0, a transcript builds from the input that the bytes lay out, and the host sees it
abbrev pub HostSees : Mapper → Type 0
HostSees m = (w : Way) (head : List ℤ) (was : Tables) (exons : List ℕ) → told_building w ≡ 0 → (t : Transcript) × Builds (input w) t × Sees m (written_by w head was exons) t

-- ---- a length

abbrev pub written_by_length : Outcome Measured → List ℤ → Tables → List ℕ → Lent
written_by_length j head was exons = record { head = head_at (built_head (length_answer j) head); tables = was; exons = exons }

-- over x: 18 for g., and between n. and c. the rules of a length and a CDS
pub record SeesLength (x : Lent) (len : ℕ) (c : Cds) : Type 0 where
  pub g_to_n : (a b : ℤ) (missing : ℕ) (s : Bool) → told_g_to_n x a b missing s ≡ refusal (number NoGenome)
  pub g_to_c : (a b : ℤ) (missing : ℕ) (s : Bool) → told_g_to_c x a b missing s ≡ refusal (number NoGenome)
  pub n_to_g : (a o b u : ℤ) (s : Bool) → told_n_to_g x a o b u s ≡ refusal (number NoGenome)
  pub n_to_c : (a o b u : ℤ) (s : Bool) → told_n_to_c x a o b u s ≡ laid c_laid (map_n_to_c s len c (n_asked a o b u))
  pub c_to_n : (a o : ℤ) (star : Bool) (b u : ℤ) (starred s : Bool) → told_c_to_n x a o star b u starred s ≡ laid n_laid (map_c_to_n s len c (c_asked a o star b u starred))
  -- the first step's refusal comes first
  pub c_to_g : (a o : ℤ) (star : Bool) (b u : ℤ) (starred s : Bool) → told_c_to_g x a o star b u starred s ≡ laid g_laid (and_then (map_c_to_n s len c (c_asked a o star b u starred)) (λ n. Err NoGenome))
  pub in_bounds : (a b : ℤ) (missing : ℕ) → told_in_bounds x a b missing ≡ said_laid (Err NoGenome)
  pub coding : told_coding x ≡ said_laid (Ok (codes c))
  pub steps : (list : List Slot) → told_steps x list ≡ steps_laid (Err NoGenome)
  pub slots : (list : List Slot) → told_slots x list ≡ list

-- where building from a length tells 0, it measured that length and that CDS, and the host sees them
abbrev pub HostSeesLength : Type 0
HostSeesLength = (len : ℤ) (bits : ℕ) (start end : ℤ) (head : List ℤ) (was : Tables) (exons : List ℕ) → built_number (length_answer (judge_length len bits start end)) ≡ 0
    → (m : Measured) × (judge_length len bits start end ≡ Ok m) × SeesLength (written_by_length (judge_length len bits start end) head was exons) m.bases m.coding

-- ---- demand 2

-- in strict mode the host is told the name y for the base at place p of t, certainly, and for the name the base, each with its exon number
pub record ToldName (x : Lent) (t : Transcript) (p : ℕ) (y : Name) (k : ExonNumbers) : Type 0 where
  pub g_to_n : told_g_to_n x (g_number t p) (g_number t p) 0 strict ≡ laid n_laid (certainly (single k.of_base) (n_at y))
  pub n_to_g : let n = n_name y in told_n_to_g x n.base n.offset n.base n.offset strict ≡ laid g_laid (certainly (single k.of_name) (g_at t p))
  pub g_to_c : (s e : ℕ) → t.coding ≡ cds s e → told_g_to_c x (g_number t p) (g_number t p) 0 strict ≡ laid c_laid (certainly (single k.of_base) (c_at s e y))
  pub c_to_g : (s e : ℕ) → t.coding ≡ cds s e → let c = c_name s e y in
      told_c_to_g x c.base.0 c.offset c.base.1 c.base.0 c.offset c.base.1 strict ≡ laid g_laid (certainly (single k.of_name) (g_at t p))

abbrev pub Host2 : Type 0
Host2 = (w : Way) (head : List ℤ) (was : Tables) (exons : List ℕ) (t : Transcript) → told_building w ≡ 0 → Builds (input w) t → NamedByRecords (ToldName (written_by w head was exons) t) (input w) t

-- ---- demand 3

-- an answer with both exon numbers n higher
abbrev pub place_up : ℕ → Position → Position
place_up n a = record { base = a.base; offset = a.offset; star = a.star; exon = a.exon + n }

abbrev pub told_up : ℕ → Answer → Answer
told_up n a = record { number = a.number; mark = a.mark; start = place_up n a.start; end = place_up n a.end }

-- in strict mode the host is told over y what it is told over x, with exon numbers that are n higher: the c. answer of each g. interval, and the g. answer of each c. interval
pub record KeepsTold (n : ℕ) (x y : Lent) : Type 0 where
  pub g_to_c : (a b : ℤ) → (told_g_to_c x a b 0 strict).number ≡ 0 → told_g_to_c y a b 0 strict ≡ told_up n (told_g_to_c x a b 0 strict)
  pub c_to_g : (a o : ℤ) (star : Bool) (b u : ℤ) (starred : Bool) → (told_c_to_g x a o star b u starred strict).number ≡ 0
      → told_c_to_g y a o star b u starred strict ≡ told_up n (told_c_to_g x a o star b u starred strict)

abbrev pub Host3 : Type 0
Host3 = (w v : Way) (head : List ℤ) (was : Tables) (exons : List ℕ) (head' : List ℤ) (was' : Tables) (exons' : List ℕ) (t : Transcript) → told_building w ≡ 0 → told_building v ≡ 0
    → Builds (input w) t → (l : Lengthens (input w) (input v)) → KeepsTold (records_added l) (written_by w head was exons) (written_by v head' was' exons')
