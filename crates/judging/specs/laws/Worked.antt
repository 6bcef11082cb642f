-- Worked examples of building's judgment, which compute: document 01's transcripts A and B, and refusals whose order its readings settle. Assumes nothing.
use Rattle.std.specs.Prelude.{ℕ, ◌+◌, Bool, true, false, List, [], ◌∷◌, ◌++◌, map, ◌≡◌, refl, ℤ, pos, negsuc, length, replicate}
use Rattle.refusals.specs.declared.Refusal.TheVariants.{NoRecords, NoStrand, BadBound, BadOrd, NotAdjacent, NoElement, BadCount, TooLong, NoSegment, HalfCds, BadCds, NoCard, NotTogether, NotSpanning}
use Rattle.refusals.specs.Outcome.{Outcome, Ok, Err}
use Rattle.fields.specs.Fields.{le16, le32}
use Rattle.cigar.specs.Elements.{is_letter, kind_of, genome, transcript, total, letter_d, letter_equal, letter_i, letter_m, letter_n}
use Rattle.cigar.specs.Text.{element, read_from}
use Rattle.records.specs.Records.{Record, record_text, exactly, record_at, records_from}
use Rattle.records.specs.Faults.{faults, faults_after, own_fault, pair_fault, follow_fault, span_fault, start_fault, rise_fault, join_fault}
use Rattle.transcript.specs.Transcript.{Cds}
use Rattle.transcript.specs.Transcript.Cds.{no_cds, cds}
use Rattle.transcript.specs.Building.{Exon, elements_of, elements_after, parts_of, first_start}
use Rattle.judging.specs.Input.{numbers_of}
use Rattle.reading.specs.Reading.{exons_of, exons_after, spanning, read_first, read_next}
use Rattle.judging.specs.Judging.{Made, judge, judge_input, judge_on, judge_length, length_fault, last_fault, range_fault}

-- ---- what is judged

-- a record of genome bounds, transcript bounds, `ord` and a CIGAR
abbrev pub row : ℤ → ℤ → ℤ → ℤ → ℤ → List ℕ → Record
row a b c d o text = record { alt_start = a; alt_end = b; tx_start = c; tx_end = d; ord = o; cigar = text }

abbrev pub bytes_of : List Record → List ℕ
bytes_of [] = []
bytes_of (r ∷ rs) = record_text r ++ bytes_of rs

-- records on a strand, with the CDS bits, start and end
abbrev judged : ℤ → ℕ → ℤ → ℤ → List Record → Outcome Made
judged strand bits start end rs = judge (numbers_of strand bits start end (length rs)) (bytes_of rs)

-- the same on strand 1, with no CDS
abbrev plain : List Record → Outcome Made
plain rs = judged (pos 1) 0 (pos 0) (pos 0) rs

abbrev made : Bool → List Exon → Cds → Outcome Made
made forward xs c = Ok (record { forward = forward; exon_list = xs; coding = c })

-- a digit's byte, and that of a letter which is none of the six
abbrev pub digit : ℕ → ℕ
digit d = 48 + d

abbrev pub letter_s : ℕ
letter_s = 83

-- `10M` and `8M`
abbrev pub ten : List ℕ
ten = digit 1 ∷ digit 0 ∷ letter_m ∷ []

abbrev eight : List ℕ
eight = digit 8 ∷ letter_m ∷ []

-- `99999999999`
abbrev pub nines : List ℕ
nines = replicate 11 (digit 9)

-- `2147483647` and a letter
abbrev largest : ℕ → List ℕ
largest letter = map digit (2 ∷ 1 ∷ 4 ∷ 7 ∷ 4 ∷ 8 ∷ 3 ∷ 6 ∷ 4 ∷ 7 ∷ []) ++ letter ∷ []

abbrev pub rows_a : List Record
rows_a = row (pos 10) (pos 20) (pos 0) (pos 10) (pos 0) ten ∷ row (pos 25) (pos 33) (pos 10) (pos 18) (pos 1) eight ∷ []

abbrev rows_b : List Record
rows_b = row (pos 10) (pos 20) (pos 8) (pos 18) (pos 1) ten ∷ row (pos 25) (pos 33) (pos 0) (pos 8) (pos 0) eight ∷ []

-- one record of genome bounds and a CIGAR, and one whose bounds are empty
abbrev pub bounded : ℕ → ℕ → List ℕ → List Record
bounded start end text = row (pos start) (pos end) (pos 0) (pos 0) (pos 0) text ∷ []

abbrev pub one : ℕ → List ℕ → List Record
one start text = bounded start start text

-- the exons of A and of B
abbrev exons_ab : List Exon
exons_ab = record { alt_start = 10; alt_end = 20; parts = element 10 letter_m ∷ [] } ∷ record { alt_start = 25; alt_end = 33; parts = element 8 letter_m ∷ [] } ∷ []

-- ---- from records

-- what a judgment is computed by, named once: to unfold this is to unfold all of it
unfoldable pub computing : Unit {0}
unfolding judge judge_input judge_on last_fault range_fault exactly records_from record_at record_text le16 le32 faults faults_after own_fault pair_fault follow_fault span_fault start_fault rise_fault join_fault exons_of exons_after spanning read_first read_next read_from is_letter elements_of elements_after parts_of first_start total genome transcript kind_of
computing = tt

-- A; B; A with a start and an end that are not given; two records with empty CIGARs; `0M` alone
built : judged (pos 1) 3 (pos 3) (pos 15) rows_a
    ∷ judged (negsuc 0) 3 (pos 3) (pos 15) rows_b
    ∷ judged (pos 1) 0 (negsuc 4) (pos 99) rows_a
    ∷ plain (row (pos 5) (pos 5) (pos 0) (pos 0) (negsuc 6) [] ∷ row (pos 7) (pos 7) (pos 0) (pos 0) (pos 3) [] ∷ [])
    ∷ plain (one 7 (digit 0 ∷ letter_m ∷ []))
    ∷ []
    ≡ made true exons_ab (cds 3 15)
    ∷ made false exons_ab (cds 3 15)
    ∷ made true exons_ab no_cds
    ∷ made true (record { alt_start = 5; alt_end = 5; parts = [] } ∷ record { alt_start = 7; alt_end = 7; parts = [] } ∷ []) no_cds
    ∷ made true (record { alt_start = 7; alt_end = 7; parts = element 0 letter_m ∷ [] } ∷ []) no_cds
    ∷ []
unfolding computing
built = refl

-- in the order of the tests, each with what would refuse later:
-- CDS bits above 3; a byte too many; no record; no strand; a bound below 0; a start below the previous end; `ord` that stands still; `ord` 0, 2, 1, where sorted records are adjacent;
-- one CDS bit; `S`; `99999999999S`; `99999999999M`; two of the largest count and then `S`; no segment; a first start above the largest with `5D`; a CDS end above the length
denied : judge (numbers_of (pos 1) 4 (pos 0) (pos 0) 0) (0 ∷ [])
    ∷ judge (numbers_of (pos 0) 0 (pos 0) (pos 0) 2) (bytes_of rows_a ++ (0 ∷ []))
    ∷ judged (pos 0) 0 (pos 0) (pos 0) []
    ∷ judged (pos 0) 1 (pos 0) (pos 0) rows_a
    ∷ judged (pos 1) 1 (pos 0) (pos 0) (row (pos 5) (pos 6) (negsuc 0) (pos 3) (pos 0) [] ∷ [])
    ∷ plain (row (pos 10) (pos 20) (pos 0) (pos 10) (pos 0) ten ∷ row (pos 19) (pos 33) (pos 11) (pos 18) (pos 0) eight ∷ [])
    ∷ plain (row (pos 10) (pos 20) (pos 0) (pos 10) (pos 0) ten ∷ row (pos 20) (pos 33) (pos 11) (pos 18) (pos 0) eight ∷ [])
    ∷ plain (row (pos 0) (pos 1) (pos 0) (pos 5) (pos 0) [] ∷ row (pos 2) (pos 3) (pos 10) (pos 15) (pos 2) [] ∷ row (pos 4) (pos 5) (pos 5) (pos 10) (pos 1) [] ∷ [])
    ∷ judged (pos 1) 2 (pos 0) (pos 0) (one 0 (letter_s ∷ []))
    ∷ judged (pos 1) 3 (pos 2) (pos 1) (one 2000000001 (letter_s ∷ []))
    ∷ plain (one 0 (nines ++ (letter_s ∷ [])))
    ∷ plain (one 0 (nines ++ (letter_m ∷ letter_s ∷ [])))
    ∷ plain (row (pos 0) (pos 0) (pos 0) (pos 0) (pos 0) (largest letter_d ++ largest letter_d) ∷ row (pos 0) (pos 0) (pos 0) (pos 0) (pos 1) (letter_s ∷ []) ∷ [])
    ∷ judged (pos 1) 3 (pos 2) (pos 1) (one 2000000001 [])
    ∷ judged (pos 1) 3 (pos 2) (pos 1) (one 2000000001 (digit 5 ∷ letter_d ∷ []))
    ∷ judged (pos 1) 3 (pos 3) (pos 19) rows_a
    ∷ []
    ≡ Err NotTogether
    ∷ Err NoCard
    ∷ Err NoRecords
    ∷ Err NoStrand
    ∷ Err BadBound
    ∷ Err BadBound
    ∷ Err BadOrd
    ∷ Err NotAdjacent
    ∷ Err HalfCds
    ∷ Err NoElement
    ∷ Err NoElement
    ∷ Err BadCount
    ∷ Err NoElement
    ∷ Err NoSegment
    ∷ Err TooLong
    ∷ Err BadCds
    ∷ []
unfolding computing
denied = refl

-- 32, by the genome length and not by the transcript's: `2M3I` spans 0..5, `2M3D` and `4M` do not, and 2^32 bases do not span 0..0;
-- a record's own `S` comes first, and a later record's does not; nor do no segment at all, a first start above the largest, and a CDS end above the length
spanned_or_not : plain (bounded 0 5 (digit 2 ∷ letter_m ∷ digit 3 ∷ letter_i ∷ []))
    ∷ plain (bounded 0 5 (digit 2 ∷ letter_m ∷ digit 3 ∷ letter_d ∷ []))
    ∷ plain (bounded 0 5 (digit 4 ∷ letter_m ∷ []))
    ∷ plain (one 0 (largest letter_m ++ largest letter_m ++ digit 2 ∷ letter_m ∷ []))
    ∷ plain (bounded 0 5 (digit 4 ∷ letter_m ∷ letter_s ∷ []))
    ∷ plain (row (pos 0) (pos 5) (pos 0) (pos 0) (pos 0) (digit 4 ∷ letter_m ∷ []) ∷ row (pos 5) (pos 6) (pos 0) (pos 0) (pos 1) (letter_s ∷ []) ∷ [])
    ∷ plain (bounded 0 5 [])
    ∷ plain (bounded 2000000001 2000000006 (digit 4 ∷ letter_m ∷ []))
    ∷ judged (pos 1) 3 (pos 2) (pos 9) (bounded 0 5 (digit 4 ∷ letter_m ∷ []))
    ∷ []
    ≡ made true (record { alt_start = 0; alt_end = 5; parts = element 2 letter_m ∷ element 3 letter_i ∷ [] } ∷ []) no_cds
    ∷ Err NotSpanning
    ∷ Err NotSpanning
    ∷ Err NotSpanning
    ∷ Err NoElement
    ∷ Err NotSpanning
    ∷ Err NotSpanning
    ∷ Err NotSpanning
    ∷ Err NotSpanning
    ∷ []
unfolding computing
spanned_or_not = refl

-- the elements of `2M1D` and, touching it, `3=`: on strand -1 each record's are reversed, and the N of length 0 stands on both
abbrev touching : List Exon
touching = record { alt_start = 10; alt_end = 12; parts = element 2 letter_m ∷ element 1 letter_d ∷ [] } ∷ record { alt_start = 12; alt_end = 15; parts = element 3 letter_equal ∷ [] } ∷ []

in_order : elements_of true touching ∷ elements_of false touching ∷ []
    ≡ (element 2 letter_m ∷ element 1 letter_d ∷ element 0 letter_n ∷ element 3 letter_equal ∷ [])
    ∷ (element 1 letter_d ∷ element 2 letter_m ∷ element 0 letter_n ∷ element 3 letter_equal ∷ [])
    ∷ []
unfolding elements_of elements_after parts_of
in_order = refl

-- ---- from a length

-- a length of 18 with the CDS 3..15; then CDS bits above 3; a length below 0; one above the largest; one CDS bit; a CDS end above the length
measured : judge_length (pos 18) 3 (pos 3) (pos 15)
    ∷ judge_length (negsuc 0) 4 (pos 0) (pos 0)
    ∷ judge_length (negsuc 0) 1 (pos 0) (pos 0)
    ∷ judge_length (pos 2000000001) 1 (pos 0) (pos 0)
    ∷ judge_length (pos 18) 2 (pos 0) (pos 19)
    ∷ judge_length (pos 18) 3 (pos 3) (pos 19)
    ∷ []
    ≡ Ok (record { bases = 18; coding = cds 3 15 })
    ∷ Err NotTogether
    ∷ Err BadBound
    ∷ Err TooLong
    ∷ Err HalfCds
    ∷ Err BadCds
    ∷ []
unfolding judge_length length_fault range_fault
measured = refl
