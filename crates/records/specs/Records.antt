-- Records as a card lays them out: five signed 32-bit numbers, a 16-bit CIGAR size, the CIGAR's bytes. Assumes nothing.
use Rattle.std.specs.Prelude.{ℕ, zero, suc, ◌+◌, Bool, ◌&&◌, List, [], ◌∷◌, ◌++◌, ℤ, length, take, drop, eqb, leb}
use Rattle.fields.specs.Fields.{le16, le32, signed32, bytes16, bytes32, bits32}
use Rattle.records.specs.Layout.{alt_start_at, alt_end_at, tx_start_at, tx_end_at, ord_at, cigar_size, cigar_text}

-- one record. The CIGAR's bytes are in transcript direction
pub record Record : Type 0 where
  pub alt_start : ℤ
  pub alt_end : ℤ
  pub tx_start : ℤ
  pub tx_end : ℤ
  pub ord : ℤ
  pub cigar : List ℕ

-- the signed number at a place
abbrev pub field_at : List ℕ → ℕ → ℤ
field_at s at = signed32 (le32 s at)

-- the size of the CIGAR of the record at a place
abbrev pub size_at : List ℕ → ℕ → ℕ
size_at s at = le16 s (at + cigar_size)

-- the place after the record at a place
abbrev pub next_at : List ℕ → ℕ → ℕ
next_at s at = at + cigar_text + size_at s at

-- the record at a place
unfoldable pub record_at : List ℕ → ℕ → Record
record_at s at = record {
  alt_start = field_at s (at + alt_start_at);
  alt_end = field_at s (at + alt_end_at);
  tx_start = field_at s (at + tx_start_at);
  tx_end = field_at s (at + tx_end_at);
  ord = field_at s (at + ord_at);
  cigar = take (size_at s at) (drop (at + cigar_text) s);
}

-- a record's bytes
unfoldable pub record_text : Record → List ℕ
record_text r =
    bytes32 (bits32 r.alt_start) ++ bytes32 (bits32 r.alt_end) ++ bytes32 (bits32 r.tx_start) ++ bytes32 (bits32 r.tx_end)
    ++ bytes32 (bits32 r.ord) ++ bytes16 (length r.cigar) ++ r.cigar

-- the bytes from a place on are n records and nothing more
unfoldable pub exactly : ℕ → List ℕ → ℕ → Bool
exactly zero s at = eqb at (length s)
exactly (suc n) s at = leb (at + cigar_text) (length s) && (leb (next_at s at) (length s) && exactly n s (next_at s at))

-- the n records from a place on
unfoldable pub records_from : ℕ → List ℕ → ℕ → List Record
records_from zero s at = []
records_from (suc n) s at = record_at s at ∷ records_from n s (next_at s at)
