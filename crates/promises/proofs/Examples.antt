-- The promises are about something: document 01's transcripts build from records, and A and B, and both with an exon added at each end, meet every premise. Assumes nothing.
use Rattle.std.specs.Prelude.{Some, None}
use Prim.Native.Nat.{ℕ}
use native.Mathlib.Omega.{arith}
use mathlib.Core.Bool.{true, false}
use mathlib.Core.List.{List, [], ◌∷◌}
use mathlib.Core.Path.{◌≡◌, refl}
use lib.IntN.{ℤ, pos, negsuc}
use Rattle.cigar.specs.Elements.{Element, letter_d, letter_i, letter_m, letter_n, is_letter, kind_of, genome, transcript, total}
use Rattle.cigar.specs.Text.{element, read_from}
use Rattle.cigar.specs.Read.{read_text}
use Rattle.records.specs.Records.{Record}
use Rattle.records.specs.Faults.{faults, faults_after, own_fault, pair_fault, follow_fault, span_fault, start_fault, rise_fault, join_fault}
use Rattle.transcript.specs.Transcript.{Transcript}
use Rattle.transcript.specs.Transcript.Cds.{cds}
use Rattle.transcript.specs.Building.{Exon, parts_of, elements_after, elements_of, numbers_after, numbers_of, first_start, build}
use Rattle.reading.specs.Reading.{spanning, read_first, read_next, exons_after, exons_of}
use Rattle.judging.specs.Input.{Input}
use Rattle.judging.specs.Judging.{last_fault, range_fault, judge_on, judge_input}
use Rattle.promises.specs.Bases.{Matched, InIntron, is_match, next_matches, by_elements}
use Rattle.promises.specs.Demands.{ours, Builds, Named, FromNearest, BasesNamed, bases_of, Lengthens, Keeps}
use Rattle.promises.specs.Table.{digit, A, B, ins, del, A+, ending, lone, spliced, spliced_1, hollow, hollow_1, led, led_1}
use Rattle.promises.proofs.Built.{built_from}
use Rattle.promises.proofs.Promises.{demand_2, demand_3}

-- ---- the inputs

abbrev row : ℕ → ℕ → ℕ → ℕ → ℕ → List ℕ → Record
row a b c d o text = record { alt_start = pos a; alt_end = pos b; tx_start = pos c; tx_end = pos d; ord = pos o; cigar = text }

-- `10M`, a `4M` of another digit, and `4M2I4M` of another letter
abbrev 10_m : List ℕ
10_m = digit 1 ∷ digit 0 ∷ letter_m ∷ []

abbrev of_m : ℕ → List ℕ
of_m n = digit n ∷ letter_m ∷ []

abbrev amid4_m : ℕ → List ℕ
amid4_m letter = digit 4 ∷ letter_m ∷ digit 2 ∷ letter ∷ digit 4 ∷ letter_m ∷ []

abbrev input : ℤ → ℕ → ℕ → List Record → Input
input strand s e rs = record { strand = strand; start = Some (pos s); end = Some (pos e); records = rs }

abbrev uncoded : ℤ → List Record → Input
uncoded strand rs = record { strand = strand; start = None; end = None; records = rs }

abbrev pub input_a : Input
input_a = input (pos 1) 3 15 (row 10 20 0 10 0 10_m ∷ row 25 33 10 18 1 (of_m 8) ∷ [])

abbrev pub input_b : Input
input_b = input (negsuc 0) 3 15 (row 10 20 8 18 1 10_m ∷ row 25 33 0 8 0 (of_m 8) ∷ [])

-- with 2..5 and 40..44 added: upstream there are 3 bases more on strand 1, and 4 on strand -1
abbrev pub input_long_a : Input
input_long_a = input (pos 1) 6 18 (row 2 5 0 3 0 (of_m 3) ∷ row 10 20 3 13 1 10_m ∷ row 25 33 13 21 2 (of_m 8) ∷ row 40 44 21 25 3 (of_m 4) ∷ [])

abbrev pub input_long_b : Input
input_long_b = input (negsuc 0) 7 19 (row 2 5 22 25 3 (of_m 3) ∷ row 10 20 12 22 2 10_m ∷ row 25 33 4 12 1 (of_m 8) ∷ row 40 44 0 4 0 (of_m 4) ∷ [])

-- ---- the transcripts that they build

abbrev exon : ℕ → ℕ → ℕ → Exon
exon a b n = record { alt_start = a; alt_end = b; parts = element n letter_m ∷ [] }

abbrev longer : List Exon
longer = exon 2 5 3 ∷ exon 10 20 10 ∷ exon 25 33 8 ∷ exon 40 44 4 ∷ []

abbrev long_a : Transcript
long_a = build true longer (cds 6 18)

abbrev long_b : Transcript
long_b = build false longer (cds 7 19)

-- A and B, both with exons added, and the other transcripts of the table
pub all_build :
    Builds input_a A
    × Builds input_b B
    × Builds input_long_a long_a
    × Builds input_long_b long_b
    × Builds (uncoded (pos 1) (row 100 110 0 8 0 (amid4_m letter_i) ∷ [])) ins
    × Builds (uncoded (pos 1) (row 100 108 0 10 0 (amid4_m letter_d) ∷ [])) del
    × Builds (input (pos 1) 3 15 (row 10 20 0 10 0 10_m ∷ row 25 33 10 18 1 (of_m 8) ∷ row 40 44 18 22 2 (of_m 4) ∷ [])) A+
    × Builds (input (pos 1) 0 4 (row 0 6 0 4 0 (digit 4 ∷ letter_m ∷ digit 2 ∷ letter_i ∷ []) ∷ [])) ending
    × Builds (input (pos 1) 0 4 (row 10 14 0 4 0 (of_m 4) ∷ [])) lone
    × Builds (uncoded (pos 1) (row 10 20 0 8 0 (amid4_m letter_n) ∷ row 25 33 8 16 1 (of_m 8) ∷ [])) spliced
    × Builds (uncoded (negsuc 0) (row 10 20 8 16 1 (amid4_m letter_n) ∷ row 25 33 0 8 0 (of_m 8) ∷ [])) spliced_1
    × Builds (uncoded (pos 1) (row 10 20 0 10 0 10_m ∷ row 22 22 10 10 1 [] ∷ row 25 33 10 18 2 (of_m 8) ∷ [])) hollow
    × Builds (uncoded (negsuc 0) (row 10 20 8 18 2 10_m ∷ row 22 22 8 8 1 [] ∷ row 25 33 0 8 0 (of_m 8) ∷ [])) hollow_1
    × Builds (uncoded (pos 1) (row 5 5 0 0 0 [] ∷ row 10 14 0 4 1 (of_m 4) ∷ [])) led
    × Builds (uncoded (negsuc 0) (row 5 5 4 4 1 [] ∷ row 10 14 0 4 0 (of_m 4) ∷ [])) led_1
unfolding judge_input judge_on last_fault range_fault faults faults_after own_fault pair_fault follow_fault span_fault start_fault rise_fault join_fault exons_of exons_after spanning read_first read_next read_from is_letter elements_of elements_after parts_of first_start total genome transcript kind_of
all_build = (refl, refl, refl, refl, refl, refl, refl, refl, refl, refl, refl, refl, refl, refl, refl)

-- ---- demand 2

-- of A and of B alike: 10_m, an N of 5, and (of_m 8)
abbrev elements_ab : List Element
elements_ab = element 10 letter_m ∷ element 5 letter_n ∷ element 8 letter_m ∷ []

module _ (t : Transcript) (is : t.elements ≡ elements_ab) where
  -- g.12, the second base of the exon 10..20
  unfoldable pub second : Matched t 1
  unfolding kind_of genome total is_match
  second = record {
    lies = record { before = []; element = element 10 letter_m; after = element 5 letter_n ∷ element 8 letter_m ∷ []; stands = is; at = 1; within = omega arith; place = refl };
    match = refl;
  }

  -- g.23, the middle of the intron
  unfoldable middle : InIntron t 12
  unfolding kind_of genome total is_match next_matches
  middle = record {
    lies = record { before = element 10 letter_m ∷ []; element = element 5 letter_n; after = element 8 letter_m ∷ []; stands = is; at = 2; within = omega arith; place = refl };
    skip = refl;
    matched_before = refl;
    matched_after = refl;
  }

pub of_a : A.elements ≡ elements_ab
unfolding build elements_of elements_after parts_of
of_a = refl

of_b : B.elements ≡ elements_ab
unfolding build elements_of elements_after parts_of
of_b = refl

-- what builds can be lent
named : (x : Input) (t : Transcript) → Builds x t → BasesNamed (Named ours t) t (by_elements t)
named x t builds = let f = built_from x t builds in demand_2 f.lent t f.held f.stands

-- one base is upstream of g.12 on A, and on B there are the 8 of the other exon and 8 of its own; it lies in exon 1 of A and in exon 2 of B
second_named :
    Named ours A 1 (record { upstream = 1; offset = pos 0 }) (record { of_base = 1; of_name = 1 })
    × Named ours B 1 (record { upstream = 16; offset = pos 0 }) (record { of_base = 2; of_name = 2 })
unfolding second build total transcript kind_of numbers_of numbers_after parts_of
second_named = ((named input_a A all_build.0).exon_base 1 (second A of_a), (named input_b B all_build.1).exon_base 1 (second B of_b))

-- g.23 lies between the exon bases g.20 and g.26, of which on A the first is upstream and on B the second
middle_named : FromNearest (Named ours A) A (by_elements A) 12 9 15 (middle A of_a) × FromNearest (Named ours B) B (by_elements B) 12 15 9 (middle B of_b)
unfolding middle build total genome kind_of
middle_named = ((named input_a A all_build.0).intron_base 12 (middle A of_a), (named input_b B all_build.1).intron_base 12 (middle B of_b))

-- ---- demand 3

lengthens_a : Lengthens input_a input_long_a
unfolding bases_of total transcript kind_of read_text read_from is_letter
lengthens_a = record {
  left = row 2 5 0 3 0 (of_m 3) ∷ [];
  own = row 10 20 3 13 1 10_m ∷ row 25 33 13 21 2 (of_m 8) ∷ [];
  right = row 40 44 21 25 3 (of_m 4) ∷ [];
  stands = refl;
  own_kept = refl;
  strand_kept = refl;
  added = 3;
  upstream = refl;
  start_moved = refl;
  end_moved = refl;
}

lengthens_b : Lengthens input_b input_long_b
unfolding bases_of total transcript kind_of read_text read_from is_letter
lengthens_b = record {
  left = row 2 5 22 25 3 (of_m 3) ∷ [];
  own = row 10 20 12 22 2 10_m ∷ row 25 33 4 12 1 (of_m 8) ∷ [];
  right = row 40 44 0 4 0 (of_m 4) ∷ [];
  stands = refl;
  own_kept = refl;
  strand_kept = refl;
  added = 4;
  upstream = refl;
  start_moved = refl;
  end_moved = refl;
}

-- one record is added upstream on either strand
answers_kept : Keeps ours 1 A long_a × Keeps ours 1 B long_b
unfolding lengthens_a lengthens_b
answers_kept = (
  demand_3 input_a input_long_a A long_a all_build.0 all_build.2 lengthens_a,
  demand_3 input_b input_long_b B long_b all_build.1 all_build.3 lengthens_b,
)
