-- A head's numbers: the CDS bounds that are handed over, each given or not, and how a strand and a CDS stand in a head. Assumes nothing.
use Rattle.std.specs.Prelude.{ℕ, ◌%◌, Bool, true, false, eqb, leb, ℤ, pos, negsuc, Some, None, Option}
use Rattle.transcript.specs.Transcript.{Cds}
use Rattle.transcript.specs.Transcript.Cds.{no_cds, cds}
use Rattle.transcript.specs.declared.Head.{Head}

-- ---- bounds that are handed over

-- both CDS bits: 1 says that the start is given, 2 that the end is
abbrev pub both_bits : ℕ
both_bits = 3

-- the number of a bound that is not given is not looked at
abbrev pub bound_of : Bool → ℤ → Option ℤ
bound_of true z = Some z
bound_of false z = None

abbrev pub start_of : ℕ → ℤ → Option ℤ
start_of bits z = bound_of (eqb (bits % 2) 1) z

abbrev pub end_of : ℕ → ℤ → Option ℤ
end_of bits z = bound_of (leb 2 bits) z

-- ---- in a head

-- a CDS as a head's numbers: its bits, and its bounds, which are 0 where they are not given
abbrev pub bits_of : Cds → ℤ
bits_of no_cds = pos 0
bits_of (cds s e) = pos both_bits

abbrev pub start_in : Cds → ℤ
start_in no_cds = pos 0
start_in (cds s e) = pos s

abbrev pub end_in : Cds → ℤ
end_in no_cds = pos 0
end_in (cds s e) = pos e

-- the number of a bound that was handed over, 0 where it is not given
abbrev pub number_of : Option ℤ → ℤ
number_of (Some z) = z
number_of None = pos 0

-- a head with a CDS as it was handed over
abbrev pub with_cds : Head → ℕ → ℤ → ℤ → Head
with_cds h bits start end = record {
  kind = h.kind;
  strand = h.strand;
  first = h.first;
  count = h.count;
  bits = pos bits;
  start = number_of (start_of bits start);
  end = number_of (end_of bits end);
  length = h.length;
  records = h.records;
}

-- a head of k records, of n segments, without a CDS
abbrev pub bare_head : ℤ → ℤ → ℕ → ℕ → Head
bare_head strand first n k = record { kind = pos 0; strand = strand; first = first; count = pos n; bits = pos 0; start = pos 0; end = pos 0; length = pos 0; records = pos k }

-- the number of a strand
abbrev pub strand_of : Bool → ℤ
strand_of true = pos 1
strand_of false = negsuc 0
