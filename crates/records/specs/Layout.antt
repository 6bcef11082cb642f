-- The layout of a record, named once: where its numbers stand, counted from its first byte, and where its CIGAR's bytes begin. The code's names for them are those of src/lib.rt.
use Rattle.std.specs.Prelude.{ℕ}

-- five signed numbers of 32 bits
abbrev pub alt_start_at : ℕ
alt_start_at = 0

abbrev pub alt_end_at : ℕ
alt_end_at = 4

abbrev pub tx_start_at : ℕ
tx_start_at = 8

abbrev pub tx_end_at : ℕ
tx_end_at = 12

abbrev pub ord_at : ℕ
ord_at = 16

-- the CIGAR's size, 16 bits
abbrev pub cigar_size : ℕ
cigar_size = 20

-- the CIGAR's bytes
abbrev pub cigar_text : ℕ
cigar_text = 22
