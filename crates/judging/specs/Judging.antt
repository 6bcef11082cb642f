-- Building's judgment: the first refusal in document 01's order, or what is to be built. Assumes nothing.
use Rattle.reading.specs.declared.Sums.{Sums}
use Rattle.std.specs.Prelude.{ℕ, ◌+◌, Bool, true, false, not, List, eqb, ltb, ℤ, pos, negsuc, nat_abs, length, if◌then◌else◌, Some, None, Option}
use Rattle.std.specs.Int.Signed.{lt_z}
use Rattle.refusals.specs.Numbers.{most_records, most_bases}
use Rattle.refusals.specs.declared.Refusal.TheVariants.{NoRecords, NoStrand, TooMuch, BadBound, TooLong, NoSegment, HalfCds, BadCds, NoCard, NotTogether}
use Rattle.refusals.specs.Outcome.{Outcome, Ok, Err, unless, Test, no_fault}
use Rattle.whole.specs.Whole.{eq_z}
use Rattle.cigar.specs.Elements.{Element, genome, transcript, total}
use Rattle.records.specs.Records.{exactly}
use Rattle.records.specs.Faults.{faults}
use Rattle.transcript.specs.Transcript.{Cds}
use Rattle.transcript.specs.Transcript.Cds.{no_cds, cds}
use Rattle.transcript.specs.Heads.{both_bits, start_of, end_of}
use Rattle.transcript.specs.Building.{Exon, elements_of, first_start}
use Rattle.judging.specs.Input.{Input, input_of}
use Rattle.reading.specs.Reading.{Exons, exons_of}
use Rattle.reading.specs.Tallies.{sums_of}
use Rattle.transcript.specs.declared.Numbers.{Numbers}

-- ---- the CDS

-- 11: one bound is given and the other is not
abbrev pub half_fault : Option ℤ → Option ℤ → Test
half_fault (Some s) (Some e) = no_fault
half_fault (Some s) None = Err HalfCds
half_fault None (Some e) = Err HalfCds
half_fault None None = no_fault

-- 12: not 0 <= start <= end <= length
unfoldable pub range_fault : ℤ → ℤ → ℤ → Test
range_fault start end last =
    if lt_z start (pos 0) then Err BadCds
    else if lt_z end start then Err BadCds
    else if lt_z last end then Err BadCds
    else no_fault

-- 12, where both bounds are given
abbrev pub cds_fault : Option ℤ → Option ℤ → ℕ → Test
cds_fault (Some s) (Some e) last = range_fault s e (pos last)
cds_fault (Some s) None last = no_fault
cds_fault None end last = no_fault

-- the CDS, where neither 11 nor 12 applies
abbrev pub cds_of : Option ℤ → Option ℤ → Cds
cds_of (Some s) (Some e) = cds (nat_abs s) (nat_abs e)
cds_of (Some s) None = no_cds
cds_of None end = no_cds

-- ---- from records

-- what records make: whether the strand is 1, the records in genomic order, the CDS
pub record Made : Type 0 where
  pub forward : Bool
  pub exon_list : List Exon
  pub coding : Cds

-- the elements of what records make, in genomic order
abbrev pub elements_made : Made → List Element
elements_made m = elements_of m.forward m.exon_list

-- 10, 9 and 12, of the number of segments, the first start, and how far the segments go
unfoldable pub last_fault : Option ℤ → Option ℤ → ℕ → ℕ → ℕ → ℕ → Test
last_fault start end n first g t =
    if eqb n 0 then Err NoSegment
    else if ltb most_bases t then Err TooLong
    else if ltb most_bases (first + g) then Err TooLong
    else cds_fault start end t

-- the CIGARs were read: their refusal, or 10, 9 and 12
abbrev pub judge_exons : Bool → Input → Exons → Outcome Made
judge_exons forward i (Err k) = Err k
judge_exons forward i (Ok xs) =
    unless (last_fault i.start i.end (length (elements_of forward xs)) (first_start xs) (total genome (elements_of forward xs)) (total transcript (elements_of forward xs)))
    (Ok (record { forward = forward; exon_list = xs; coding = cds_of i.start i.end }))

-- on a strand: 3 for the records, 4, 5 and 6 per record, 11, 3, 7, 8 and 32 per record, then 10, 9 and 12
unfoldable pub judge_on : Bool → Input → Outcome Made
judge_on forward i =
    if ltb most_records (length i.records) then Err TooMuch
    else unless (faults forward i.records)
    (unless (half_fault i.start i.end)
    (judge_exons forward i (exons_of i.records)))

-- document 01's build order: 1, 2, and the rest on a strand
unfoldable pub judge_input : Input → Outcome Made
judge_input i =
    if eqb (length i.records) 0 then Err NoRecords
    else if eq_z i.strand (pos 1) then judge_on true i
    else if eq_z i.strand (negsuc 0) then judge_on false i
    else Err NoStrand

-- what is handed over: CDS bits above 3 are 23, bytes that are not just that many records are 21, and the rest is building's own order
unfoldable pub judge : Numbers → List ℕ → Outcome Made
judge n bytes =
    if ltb both_bits n.cds then Err NotTogether
    else if not (exactly n.count bytes 0) then Err NoCard
    else judge_input (input_of n bytes)

-- what is told of it: its refusal, or the sums of the elements that are to be built
abbrev pub told_of : Outcome Made → Outcome Sums
told_of (Err k) = Err k
told_of (Ok m) = Ok (sums_of (elements_made m))

-- ---- from a length

-- what a length makes: itself, and the CDS
pub record Measured : Type 0 where
  pub bases : ℕ
  pub coding : Cds

-- 4 and 9
unfoldable pub length_fault : ℤ → Test
length_fault len =
    if lt_z len (pos 0) then Err BadBound
    else if lt_z (pos most_bases) len then Err TooLong
    else no_fault

-- CDS bits above 3 are 23; then 4, 9, 11 and 12
unfoldable pub judge_length : ℤ → ℕ → ℤ → ℤ → Outcome Measured
judge_length len bits start end =
    if ltb both_bits bits then Err NotTogether
    else unless (length_fault len)
    (unless (half_fault (start_of bits start) (end_of bits end))
    (unless (cds_fault (start_of bits start) (end_of bits end) (nat_abs len))
    (Ok (record { bases = nat_abs len; coding = cds_of (start_of bits start) (end_of bits end) }))))
