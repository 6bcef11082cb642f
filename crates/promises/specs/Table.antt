-- The table of places: P1 to P15 of document 01 and rows beside them, as one statement over one list. A row is a question with the answer that is due. Assumes nothing.
use Rattle.std.specs.Prelude.{ℕ, ◌+◌, Bool, true, false, List, [], ◌∷◌, map, ◌≡◌, ℤ, pos, neg_ℤ, drop, Some, None}
use Rattle.refusals.specs.declared.Refusal.TheVariants.{NotCoding, Outside, NOutside, COutside, TooWide, NoGenome, MissingEnd, NotSpanning}
use Rattle.refusals.specs.Outcome.{Outcome, Ok, Err}
use Rattle.sequences.specs.Alleles.{prefix_len, changed_of}
use Rattle.numbering.specs.Numbers.{plain_c, star_c}
use Rattle.numbering.specs.declared.CNumber.{CNumber}
use Rattle.cigar.specs.Elements.{Element, letter_equal, letter_d, letter_i, letter_m, letter_n, letter_x}
use Rattle.cigar.specs.Text.{Reading, element}
use Rattle.cigar.specs.Read.{read_text}
use Rattle.spelling.specs.Write.{elements_text}
use Rattle.transcript.specs.Transcript.{Transcript, Source}
use Rattle.transcript.specs.Transcript.Cds.{no_cds, cds}
use Rattle.transcript.specs.Transcript.Source.{aligned, length_only}
use Rattle.transcript.specs.Building.{Exon, build}
use Rattle.positions.specs.Positions.{Interval, each, GAsked, NAsked, CAsked, GPosition, NPosition, CPosition, asks_n, asks_c}
use Rattle.positions.specs.Answers.{Answer, certainly, uncertainly, plainly}
use Rattle.mapper.specs.Asking.{ask_g_to_n, ask_in_bounds}
use Rattle.judging.specs.Input.{Input}
use Rattle.promises.specs.Demands.{Mapper, building, strict, single}

-- a question to a mapper, to a transcript of either kind, to the CIGAR's reader and writer, to the trimmers, or to building; and the answer
pub data Row : Type 0 where
  g_n : Bool → Transcript → Interval ℤ → Answer NPosition → Row
  n_g : Bool → Transcript → Interval NAsked → Answer GPosition → Row
  n_c : Bool → Transcript → Interval NAsked → Answer CPosition → Row
  c_n : Bool → Transcript → Interval CAsked → Answer NPosition → Row
  g_c : Bool → Transcript → Interval ℤ → Answer CPosition → Row
  c_g : Bool → Transcript → Interval CAsked → Answer GPosition → Row
  asked_g_n : Bool → Interval GAsked → Source → Answer NPosition → Row
  in_bounds : Interval GAsked → Source → Outcome Bool → Row
  cigar : List ℕ → List Element → Row
  alleles : List ℕ → List ℕ → ℕ → List ℕ → List ℕ → List ℕ → Row
  builds : Input → Outcome Transcript → Row

-- an answer to any question
pub data Reply : Type 0 where
  in_g : Answer GPosition → Reply
  in_n : Answer NPosition → Reply
  in_c : Answer CPosition → Reply
  a_yes : Outcome Bool → Reply
  a_reading : Reading → List ℕ → Reply
  a_trimming : ℕ → List ℕ → List ℕ → List ℕ → Reply
  a_transcript : Outcome Transcript → Reply

-- what is answered to a row's question: a CIGAR is read, and its elements are written; of two alleles the common prefix is counted and removed, and the changed part is found
abbrev pub reply_given : Mapper → Row → Reply
reply_given m (g_n strict t i a) = in_n (m.g_to_n strict t i)
reply_given m (n_g strict t i a) = in_g (m.n_to_g strict t i)
reply_given m (n_c strict t i a) = in_c (m.n_to_c strict t i)
reply_given m (c_n strict t i a) = in_n (m.c_to_n strict t i)
reply_given m (g_c strict t i a) = in_c (m.g_to_c strict t i)
reply_given m (c_g strict t i a) = in_g (m.c_to_g strict t i)
reply_given m (asked_g_n strict i x a) = in_n (ask_g_to_n strict i x)
reply_given m (in_bounds i x a) = a_yes (ask_in_bounds i x)
reply_given m (cigar text es) = a_reading (read_text text) (elements_text es)
reply_given m (alleles r a prefix r_left a_left changed) = a_trimming (prefix_len r a) (drop (prefix_len r a) r) (drop (prefix_len r a) a) (changed_of r a)
reply_given m (builds x t) = a_transcript (building x)

-- what the row says
abbrev pub due : Row → Reply
due (g_n strict t i a) = in_n a
due (n_g strict t i a) = in_g a
due (n_c strict t i a) = in_c a
due (c_n strict t i a) = in_n a
due (g_c strict t i a) = in_c a
due (c_g strict t i a) = in_g a
due (asked_g_n strict i x a) = in_n a
due (in_bounds i x a) = a_yes a
due (cigar text es) = a_reading (Ok es) text
due (alleles r a prefix r_left a_left changed) = a_trimming prefix r_left a_left changed
due (builds x t) = a_transcript t

-- ---- short ways to write rows

abbrev lenient : Bool
lenient = false

abbrev strand1 : Bool
strand1 = true

abbrev strand_1 : Bool
strand_1 = false

abbrev minus : ℕ → ℤ
minus n = neg_ℤ (pos n)

-- intervals of g. numbers, of n. and of c. positions; a g. interval that is answered, and an n., a c. and a g. interval that are asked
abbrev g : ℕ → Interval ℤ
g a = single (pos a)

abbrev gs : ℕ → ℕ → Interval ℤ
gs a b = record { from = pos a; to = pos b }

abbrev n : ℤ → ℤ → Interval NPosition
n a o = single (record { base = a; offset = o })

abbrev ns : ℤ → ℤ → ℤ → ℤ → Interval NPosition
ns a o b u = record { from = record { base = a; offset = o }; to = record { base = b; offset = u } }

abbrev c : CNumber → ℤ → Interval CPosition
c a o = single (record { base = a; offset = o })

abbrev cs : CNumber → ℤ → CNumber → ℤ → Interval CPosition
cs a o b u = record { from = record { base = a; offset = o }; to = record { base = b; offset = u } }

abbrev answered_g : Interval ℤ → Interval GPosition
answered_g i = each (λ (z : ℤ). record { base = z }) i

abbrev asked_n : Interval NPosition → Interval NAsked
asked_n i = each asks_n i

abbrev asked_c : Interval CPosition → Interval CAsked
asked_c i = each asks_c i

-- the exon numbers of an answer: of both ends alike, and of each
abbrev in_exon : ℕ → Interval ℕ
in_exon k = single k

abbrev in_exons : ℕ → ℕ → Interval ℕ
in_exons k l = record { from = k; to = l }

abbrev asked : ℕ → ℕ → Interval GAsked
asked a b = record { from = Some (pos a); to = Some (pos b) }

-- an element, and the bytes of a digit and of the four bases
infix 70 ◌of◌
abbrev ◌of◌ : ℕ → ℕ → Element
n of letter = element n letter

abbrev pub digit : ℕ → ℕ
digit d = 48 + d

abbrev base_a : ℕ
base_a = 65

abbrev base_c : ℕ
base_c = 67

abbrev base_g : ℕ
base_g = 71

abbrev base_t : ℕ
base_t = 84

abbrev exon : ℕ → ℕ → List Element → Exon
exon a b es = record { alt_start = a; alt_end = b; parts = es }

-- ---- the transcripts of the table

abbrev pub exons_of_a : List Exon
exons_of_a = exon 10 20 (10 of letter_m ∷ []) ∷ exon 25 33 (8 of letter_m ∷ []) ∷ []

abbrev pub A : Transcript
A = build strand1 exons_of_a (cds 3 15)

abbrev pub B : Transcript
B = build strand_1 exons_of_a (cds 3 15)

abbrev pub ins : Transcript
ins = build strand1 (exon 100 110 (4 of letter_m ∷ 2 of letter_i ∷ 4 of letter_m ∷ []) ∷ []) no_cds

abbrev pub del : Transcript
del = build strand1 (exon 100 108 (4 of letter_m ∷ 2 of letter_d ∷ 4 of letter_m ∷ []) ∷ []) no_cds

-- A with an exon added after it
abbrev pub A+ : Transcript
A+ = build strand1 (exon 10 20 (10 of letter_m ∷ []) ∷ exon 25 33 (8 of letter_m ∷ []) ∷ exon 40 44 (4 of letter_m ∷ []) ∷ []) (cds 3 15)

-- the genome goes on behind the transcript's last base
abbrev pub ending : Transcript
ending = build strand1 (exon 0 6 (4 of letter_m ∷ 2 of letter_i ∷ []) ∷ []) (cds 0 4)

-- one exon
abbrev pub lone : Transcript
lone = build strand1 (exon 10 14 (4 of letter_m ∷ []) ∷ []) (cds 0 4)

-- the same with the record 2..5 before it, its CIGAR given, and the CDS moved up as if that were `2M`
abbrev with_left : List ℕ → Input
with_left text = record {
  strand = pos 1;
  start = Some (pos 2);
  end = Some (pos 6);
  records = record { alt_start = pos 2; alt_end = pos 5; tx_start = pos 0; tx_end = pos 2; ord = pos 0; cigar = text }
      ∷ record { alt_start = pos 10; alt_end = pos 14; tx_start = pos 2; tx_end = pos 6; ord = pos 1; cigar = digit 4 ∷ letter_m ∷ [] }
      ∷ [];
}

abbrev pub spanned : Transcript
spanned = build strand1 (exon 2 5 (2 of letter_m ∷ 1 of letter_i ∷ []) ∷ exon 10 14 (4 of letter_m ∷ []) ∷ []) (cds 2 6)

-- A's records, with an N inside the first; on both strands
abbrev exons_spliced : List Exon
exons_spliced = exon 10 20 (4 of letter_m ∷ 2 of letter_n ∷ 4 of letter_m ∷ []) ∷ exon 25 33 (8 of letter_m ∷ []) ∷ []

abbrev pub spliced : Transcript
spliced = build strand1 exons_spliced no_cds

abbrev pub spliced_1 : Transcript
spliced_1 = build strand_1 exons_spliced no_cds

-- A's records, with an empty one between them
abbrev exons_hollow : List Exon
exons_hollow = exon 10 20 (10 of letter_m ∷ []) ∷ exon 22 22 [] ∷ exon 25 33 (8 of letter_m ∷ []) ∷ []

abbrev pub hollow : Transcript
hollow = build strand1 exons_hollow no_cds

abbrev pub hollow_1 : Transcript
hollow_1 = build strand_1 exons_hollow no_cds

-- an empty record before another, along the genome
abbrev exons_led : List Exon
exons_led = exon 5 5 [] ∷ exon 10 14 (4 of letter_m ∷ []) ∷ []

abbrev pub led : Transcript
led = build strand1 exons_led no_cds

abbrev pub led_1 : Transcript
led_1 = build strand_1 exons_led no_cds

-- ---- the rows

abbrev pub rows : List Row
rows =
    -- P1: A g.11 = n.1 = c.-3
    g_n strict A (g 11) (certainly (in_exon 1) (n (pos 1) (pos 0)))
    ∷ g_c strict A (g 11) (certainly (in_exon 1) (c (plain_c (minus 3)) (pos 0)))
    -- P2: A g.13 = c.-1
    ∷ g_c strict A (g 13) (certainly (in_exon 1) (c (plain_c (minus 1)) (pos 0)))
    -- P3: A g.14 = c.1
    ∷ g_c strict A (g 14) (certainly (in_exon 1) (c (plain_c (pos 1)) (pos 0)))
    -- P4: A g.21 = c.7+1
    ∷ g_c strict A (g 21) (certainly (in_exon 1) (c (plain_c (pos 7)) (pos 1)))
    -- P5: A g.23 = c.7+3, the middle
    ∷ g_c strict A (g 23) (certainly (in_exon 1) (c (plain_c (pos 7)) (pos 3)))
    -- P6: A g.24 = c.8-2
    ∷ g_c strict A (g 24) (certainly (in_exon 2) (c (plain_c (pos 8)) (minus 2)))
    -- P7: A g.33 = c.*3
    ∷ g_c strict A (g 33) (certainly (in_exon 2) (c (star_c (pos 3)) (pos 0)))
    -- P8: A g.34 refuses 14
    ∷ g_n strict A (g 34) (Err Outside)
    ∷ g_c strict A (g 34) (Err Outside)
    -- P9: A g.35 and g.10 refuse 14; lenient g.10 = n.-1 = c.-4
    ∷ g_n strict A (g 35) (Err Outside)
    ∷ g_n strict A (g 10) (Err Outside)
    ∷ g_n lenient A (g 10) (certainly (in_exon 1) (n (minus 1) (pos 0)))
    ∷ g_c lenient A (g 10) (certainly (in_exon 1) (c (plain_c (minus 4)) (pos 0)))
    -- P10: B g.33 = n.1
    ∷ g_n strict B (g 33) (certainly (in_exon 1) (n (pos 1) (pos 0)))
    -- P11: B g.23 = n.8+3 = c.5+3
    ∷ g_n strict B (g 23) (certainly (in_exon 1) (n (pos 8) (pos 3)))
    ∷ g_c strict B (g 23) (certainly (in_exon 1) (c (plain_c (pos 5)) (pos 3)))
    -- P12: g.105_105 = n.4_5, uncertain
    ∷ g_n strict ins (g 105) (uncertainly (in_exon 1) (ns (pos 4) (pos 0) (pos 5) (pos 0)))
    -- P13: n.5_5 = g.104_105, uncertain; g.105 = n.7
    ∷ n_g strict del (asked_n (n (pos 5) (pos 0))) (uncertainly (in_exon 1) (answered_g (gs 104 105)))
    ∷ g_n strict del (g 105) (certainly (in_exon 1) (n (pos 7) (pos 0)))
    -- P14: M0X3= reads as 1M 0X 3= and is written unchanged
    ∷ cigar (letter_m ∷ digit 0 ∷ letter_x ∷ digit 3 ∷ letter_equal ∷ []) (1 of letter_m ∷ 0 of letter_x ∷ 3 of letter_equal ∷ [])
    -- P15: ACGT and ACT: prefix 2 leaves GT and T; changed part G
    ∷ alleles (base_a ∷ base_c ∷ base_g ∷ base_t ∷ []) (base_a ∷ base_c ∷ base_t ∷ []) 2 (base_g ∷ base_t ∷ []) (base_t ∷ []) (base_g ∷ [])
    -- on strand -1 start and end change places: B g.11_33 = n.1_18 and back; B g.22_33 = n.1_9-2
    ∷ g_n strict B (gs 11 33) (certainly (in_exons 1 2) (ns (pos 1) (pos 0) (pos 18) (pos 0)))
    ∷ n_g strict B (asked_n (ns (pos 1) (pos 0) (pos 18) (pos 0))) (certainly (in_exons 2 1) (answered_g (gs 11 33)))
    ∷ g_n strict B (gs 22 33) (certainly (in_exons 1 2) (ns (pos 1) (pos 0) (pos 9) (minus 2)))
    -- the numbers beside the transcript's first and last refuse 14 on either strand
    ∷ n_g strict B (asked_n (n (minus 1) (pos 0))) (Err Outside)
    ∷ n_g strict B (asked_n (n (pos 19) (pos 0))) (Err Outside)
    ∷ n_g strict A (asked_n (n (minus 1) (pos 0))) (Err Outside)
    ∷ n_g strict A (asked_n (n (pos 19) (pos 0))) (Err Outside)
    -- lenient they have answers, and so has g.34
    ∷ n_g lenient B (asked_n (n (minus 1) (pos 0))) (certainly (in_exon 1) (answered_g (g 34)))
    ∷ n_g lenient A (asked_n (n (pos 19) (pos 0))) (certainly (in_exon 2) (answered_g (g 34)))
    ∷ g_c lenient A (g 34) (certainly (in_exon 2) (c (star_c (pos 4)) (pos 0)))
    -- n. to c. tests both ends on both sides: n.1_0 and n.5_1 refuse 15; lenient n.1_0 is c.1_c.0
    ∷ n_c strict lone (asked_n (ns (pos 1) (pos 0) (pos 0) (pos 0))) (Err NOutside)
    ∷ n_c strict lone (asked_n (ns (pos 5) (pos 0) (pos 1) (pos 0))) (Err NOutside)
    ∷ n_c lenient lone (asked_n (ns (pos 1) (pos 0) (pos 0) (pos 0))) (plainly (cs (plain_c (pos 1)) (pos 0) (plain_c (pos 0)) (pos 0)))
    -- g. to n. has 14 alone: 4M2I g.5 = n.4_5 on 4 bases, uncertain, but c. refuses 15
    ∷ g_n strict ending (g 5) (uncertainly (in_exon 1) (ns (pos 4) (pos 0) (pos 5) (pos 0)))
    ∷ g_c strict ending (g 5) (Err NOutside)
    -- c.7+3 comes back; 16; 13; 17
    ∷ c_g strict A (asked_c (c (plain_c (pos 7)) (pos 3))) (certainly (in_exon 1) (answered_g (g 23)))
    ∷ c_n strict A (asked_c (c (star_c (pos 4)) (pos 0))) (Err COutside)
    ∷ n_c strict del (asked_n (n (pos 1) (pos 0))) (Err NotCoding)
    ∷ n_g lenient A (asked_n (ns (pos 1) (pos 2147483647) (pos 1) (pos 0))) (Err TooWide)
    -- 18 and 19
    ∷ asked_g_n strict (asked 11 11) (length_only 18 no_cds) (Err NoGenome)
    ∷ asked_g_n strict (record { from = Some (pos 11); to = None }) (aligned A) (Err MissingEnd)
    -- A g.11_33 is in bounds, g.33_11 too; g.11_34, g.34_11, g.10_33 and g.33_10 are not; 18 and 19
    ∷ in_bounds (asked 11 33) (aligned A) (Ok true)
    ∷ in_bounds (asked 33 11) (aligned A) (Ok true)
    ∷ in_bounds (asked 11 34) (aligned A) (Ok false)
    ∷ in_bounds (asked 34 11) (aligned A) (Ok false)
    ∷ in_bounds (asked 10 33) (aligned A) (Ok false)
    ∷ in_bounds (asked 33 10) (aligned A) (Ok false)
    ∷ in_bounds (asked 11 33) (length_only 18 no_cds) (Err NoGenome)
    ∷ in_bounds (record { from = None; to = Some (pos 33) }) (aligned A) (Err MissingEnd)
    -- demand 3 speaks of answers: A g.34_33 refuses 14, and with an exon added it is c.*3+1_*3
    ∷ g_c strict A (gs 34 33) (Err Outside)
    ∷ g_c strict A+ (gs 34 33) (certainly (in_exon 2) (cs (star_c (pos 3)) (pos 1) (star_c (pos 3)) (pos 0)))
    -- 32: with `2M` on 2..5 added g.11 would move from c.1 to c.2; with `2MI` it stays
    ∷ g_c strict lone (g 11) (certainly (in_exon 1) (c (plain_c (pos 1)) (pos 0)))
    ∷ builds (with_left (digit 2 ∷ letter_m ∷ [])) (Err NotSpanning)
    ∷ builds (with_left (digit 2 ∷ letter_m ∷ letter_i ∷ [])) (Ok spanned)
    ∷ g_c strict spanned (g 11) (certainly (in_exon 2) (c (plain_c (pos 1)) (pos 0)))
    -- exon numbers, counted in transcript order. B's gap: its left half counts from 10..20, which is exon 2, its middle (P11) and its right half from 25..33, which is exon 1
    ∷ g_n strict B (g 22) (certainly (in_exon 2) (n (pos 9) (minus 2)))
    ∷ g_n strict B (g 24) (certainly (in_exon 1) (n (pos 8) (pos 2)))
    -- a name has the number of the exon base that it counts from: A c.8-2 and c.7+4 are both g.24
    ∷ c_g strict A (asked_c (c (plain_c (pos 8)) (minus 2))) (certainly (in_exon 2) (answered_g (g 24)))
    ∷ c_g strict A (asked_c (c (plain_c (pos 7)) (pos 4))) (certainly (in_exon 1) (answered_g (g 24)))
    -- an N inside a record belongs to that record
    ∷ g_n strict spliced (g 15) (certainly (in_exon 1) (n (pos 4) (pos 1)))
    ∷ g_n strict spliced (g 16) (certainly (in_exon 1) (n (pos 5) (minus 1)))
    ∷ g_n strict spliced (g 26) (certainly (in_exon 2) (n (pos 9) (pos 0)))
    ∷ g_n strict spliced_1 (g 15) (certainly (in_exon 2) (n (pos 13) (minus 1)))
    ∷ g_n strict spliced_1 (g 16) (certainly (in_exon 2) (n (pos 12) (pos 1)))
    ∷ g_n strict spliced_1 (g 26) (certainly (in_exon 1) (n (pos 8) (pos 0)))
    -- an empty record counts: on its left the gap of g.21 and g.22, on its right that of g.23 to g.25
    ∷ g_n strict hollow (g 21) (certainly (in_exon 1) (n (pos 10) (pos 1)))
    ∷ g_n strict hollow (g 22) (certainly (in_exon 2) (n (pos 11) (minus 1)))
    ∷ g_n strict hollow (g 24) (certainly (in_exon 2) (n (pos 10) (pos 2)))
    ∷ g_n strict hollow (g 25) (certainly (in_exon 3) (n (pos 11) (minus 1)))
    ∷ n_g strict hollow (asked_n (n (pos 11) (minus 1))) (certainly (in_exon 3) (answered_g (g 25)))
    ∷ g_n strict hollow_1 (g 21) (certainly (in_exon 3) (n (pos 9) (minus 1)))
    ∷ g_n strict hollow_1 (g 22) (certainly (in_exon 2) (n (pos 8) (pos 1)))
    ∷ g_n strict hollow_1 (g 23) (certainly (in_exon 2) (n (pos 9) (minus 1)))
    ∷ g_n strict hollow_1 (g 24) (certainly (in_exon 1) (n (pos 8) (pos 2)))
    -- a gap that is chosen leniently, before all else along the genome, counts as the record before it in transcript order
    ∷ n_g lenient led (asked_n (n (minus 1) (pos 0))) (certainly (in_exon 1) (answered_g (g 5)))
    ∷ n_g lenient led_1 (asked_n (n (pos 5) (pos 0))) (certainly (in_exon 1) (answered_g (g 5)))
    ∷ []

-- each row's question has the answer that is due
abbrev pub TableOfPlaces : Mapper → Type 0
TableOfPlaces m = map (reply_given m) rows ≡ map due rows
