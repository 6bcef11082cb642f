-- What a slice holds without its first bytes, without its last, and without both. Assumes nothing.
use Rattle.std.specs.Prelude.{◌≡◌, List, ℕ, ◌-◌, min, length, take, drop}
use Rattle.std.proofs.Common.{sym, ap, ◌∙◌, le_of_lt, arith, length-drop, drop_of_length-le}
use Rattle.std.proofs.Math.Nat.{sub-zero}
use Rattle.std.proofs.Math.Decide.{dec_lt}
use Rattle.std.proofs.Math.Seq.{drop-length}
use borrow.Author.Rules.{part_to_end}
use Rattle.sequences.specs.Alleles.{suffix_len, stretch, bytes_before, after}
use Rattle.sequences.specs.Slices.{Slice, size, rest_of, front_of}

pub rest_bytes : (s : Slice) (p : ℕ) → (rest_of s p).bytes ≡ drop p s.bytes
rest_bytes s p =
    part_to_end s.bytes (min p (size s))
    ∙ elim (dec_lt (size s) p) [
      | yes l ↦
          ap (λ (n : ℕ). drop n s.bytes) {x = min p (size s)} {y = size s} (omega arith)
          ∙ drop-length s.bytes
          ∙ sym (drop_of_length-le s.bytes {i = p} (le_of_lt l))
      | no n ↦ ap (λ (n : ℕ). drop n s.bytes) {x = min p (size s)} {y = p} (omega arith)
    ]

pub front_bytes : (s : Slice) (q : ℕ) → (front_of s q).bytes ≡ take (size s - q) s.bytes
front_bytes s q = rw (sub-zero (size s - q))

pub front_first : (p q : ℕ) (s : List ℕ) → take (length (drop p s) - q) (drop p s) ≡ stretch s p (length s - q)
front_first p q s = ap (λ (n : ℕ). take n (drop p s)) (let h : length (drop p s) - q ≡ length s - q - p = omega (arith, length-drop p s) in h)

pub between_bytes : (s : Slice) (p q : ℕ) → (front_of (rest_of s p) q).bytes ≡ stretch s.bytes p (size s - q)
between_bytes s p q = front_bytes (rest_of s p) q ∙ ap (λ (t : List ℕ). take (length t - q) t) (rest_bytes s p) ∙ front_first p q s.bytes

-- the bytes that go at the back of two alleles are counted in what is left of them behind their common prefix
pub after_rests : (r a x y : Slice) (p : ℕ) → p ≡ bytes_before r.bytes a.bytes → x ≡ rest_of r p → y ≡ rest_of a p → suffix_len x.bytes y.bytes ≡ after r.bytes a.bytes
after_rests r a x y p e ex ey = rw (ex, ey, e, rest_bytes r (bytes_before r.bytes a.bytes), rest_bytes a (bytes_before r.bytes a.bytes))
