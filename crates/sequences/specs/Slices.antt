-- A slice of bytes as its holder has it, where it stands and what it holds, and the parts of one.
use Rattle.std.specs.Prelude.{ℕ, ◌+◌, ◌-◌, min, List, cond, length}
use Rattle.std.specs.Borrow.{Bor}
use Rattle.sequences.specs.declared.Part.{Part}
use Rattle.sequences.specs.Alleles.{stretch}

-- the block of memory that it lies in, the place in it where it begins, and its bytes
pub record Slice : Type 0 where
  pub block : ℕ
  pub at : ℕ
  pub bytes : List ℕ

abbrev pub slice_of : Bor (List ℕ) → Slice
slice_of s = record { block = s.ref_ptr.0; at = s.ref_ptr.1; bytes = s.now }

abbrev pub size : Slice → ℕ
size s = length s.bytes

-- the part that begins `from` bytes into the slice and ends before `to`
abbrev pub part_between : Slice → ℕ → ℕ → Slice
part_between s from to = record { block = s.block; at = from + s.at; bytes = stretch s.bytes from to }

-- without its first p bytes: where it has fewer, the empty part at its end
abbrev pub rest_of : Slice → ℕ → Slice
rest_of s p = part_between s (min p (size s)) (size s)

-- without its last q bytes: where it has fewer, the empty part at its beginning
abbrev pub front_of : Slice → ℕ → Slice
front_of s q = part_between s 0 (size s - q)

-- a part of one of two alleles
abbrev pub part_of : Part → Slice → Slice → Slice
part_of k r a = part_between (cond k.alternative a r) k.from k.to
