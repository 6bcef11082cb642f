-- The layout of a card, named once: its mark, its version, and where its numbers stand. The code's names for them are those of src/lib.rt.
use Rattle.std.specs.Prelude.{ℕ, List}
use Rattle.cigar.specs.Bytes.{ascii}

abbrev pub mark : List ℕ
mark = ascii "TXC"

abbrev pub version : ℕ
version = 1

-- the version, 16 bits
abbrev pub version_at : ℕ
version_at = 3

-- the strand, one byte: 0 plus, 1 minus. Bytes that end before it are no card, whatever the version
abbrev pub strand_at : ℕ
strand_at = 5

-- the CDS byte: bit 0 start given, bit 1 end given, others 0
abbrev pub cds_at : ℕ
cds_at = 6

-- the CDS start and end, signed numbers of 32 bits
abbrev pub start_at : ℕ
start_at = 7

abbrev pub end_at : ℕ
end_at = 11

-- the record count, 16 bits
abbrev pub count_at : ℕ
count_at = 15

-- the records
abbrev pub records_at : ℕ
records_at = 17
