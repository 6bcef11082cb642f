-- Where a walk over records stands, and how it goes on. The passes over records that passed 21, 4, 5 and 6 ask for this. Assumes nothing.
use Rattle.std.specs.Prelude.{ℕ, ◌+◌, ◌-◌, ◌≤◌, ◌<◌, true, false, List, [], ◌∷◌, ◌≡◌, pos, length}
use Rattle.std.specs.Int.Signed.{lt_z}
use Rattle.records.specs.Layout.{cigar_text}
use Rattle.records.specs.Records.{Record, next_at, record_at, exactly, records_from}

-- a record stands at a place, whole
pub record Stands (s : List ℕ) (at : ℕ) : Type 0 where
  pub numbers : at + cigar_text ≤ length s
  pub text : next_at s at ≤ length s

-- n records begin at a place, at least one: it stands there, and the others follow it
pub record Begins (n : ℕ) (s : List ℕ) (at : ℕ) : Type 0 where
  pub stands : Stands s at
  pub others : exactly (n - 1) s (next_at s at) ≡ true

-- a record's genome bounds are not negative, and in order
pub record Placed (r : Record) : Type 0 where
  pub start_whole : lt_z r.alt_start (pos 0) ≡ false
  pub end_whole : lt_z r.alt_end (pos 0) ≡ false
  pub in_order : lt_z r.alt_end r.alt_start ≡ false

-- the genome bounds on the two sides of a gap are not negative, and in order
pub record Beside (p r : Record) : Type 0 where
  pub end_whole : lt_z p.alt_end (pos 0) ≡ false
  pub start_whole : lt_z r.alt_start (pos 0) ≡ false
  pub in_order : lt_z r.alt_start p.alt_end ≡ false

-- the records after p stand in genomic order
abbrev pub Ordered : Record → List Record → Type 0
Ordered p [] = Unit {0}
Ordered p (r ∷ rs) = Beside p r × Ordered r rs

-- n records are left, which begin at a place, after the record at `previous`
pub record Walk (s : List ℕ) (previous n at : ℕ) : Type 0 where
  pub exact : exactly n s at ≡ true
  pub inside : previous + cigar_text ≤ length s
  pub order : Ordered (record_at s previous) (records_from n s at)

-- one record further on
pub record Turn (s : List ℕ) (previous n at : ℕ) : Type 0 where
  pub stands : Stands s at
  pub beside : Beside (record_at s previous) (record_at s at)
  pub next : Walk s at (n - 1) (next_at s at)

-- n records, at least one, passed: the first stands at the front, its genome start is not negative, and the others follow it
pub record Ready (n : ℕ) (s : List ℕ) : Type 0 where
  pub some : 0 < n
  pub stands : Stands s 0
  pub start_whole : lt_z (record_at s 0).alt_start (pos 0) ≡ false
  pub next : Walk s 0 (n - 1) (next_at s 0)
