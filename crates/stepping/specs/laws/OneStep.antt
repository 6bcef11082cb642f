-- One segment's steps, computed with differences that wrap. Assumes nothing.
use Rattle.std.specs.Prelude.{◌≡◌, ℕ, ◌+◌, ◌-◌, ◌%◌, ◌^◌, ◌<◌, ◌≤◌, true, ◌&&◌, bit_or, nat_le, nat_lt}
use Rattle.std.proofs.Common.{lt_of_le_of_lt, arith, pow_pos, leb-true, leb-false, ltb-true, lt-ltb}
use Rattle.std.specs.Int.Bits.{or_add_and}
use Rattle.std.proofs.lemmas.Nat.{and_le_l, and_le_r, or_lt}
use Rattle.whole.specs.laws.Whole.{by_test, both, both_of}
use Rattle.numbered.specs.laws.All.{equal_where}
use Rattle.stepping.specs.Steps.{wrapped, within}

-- a difference that wraps, by name
pub wrapped_is : (a b d : ℕ) → a < 2 ^ 32 → b < 2 ^ 32 → d < 2 ^ 32 → (d + b) % 2 ^ 32 ≡ a → d ≡ wrapped a b
unfolding wrapped
wrapped_is a b d a< b< d< e =
    by_test (nat_le b a)
    (λ t. let l = leb-true b a t in rw t (omega arith))
    (λ t. let l = leb-false b a t in rw t (omega arith))

-- and as the machine takes it
pub wraps : (a b : ℕ) → a < 2 ^ 32 → b < 2 ^ 32 → (a + (2 ^ 32 - b)) % 2 ^ 32 ≡ wrapped a b
wraps a b a< b< = wrapped_is a b ((a + (2 ^ 32 - b)) % 2 ^ 32) a< b< (omega arith) (omega arith)

-- the bits of two numbers together
pub within_or : (k a b : ℕ) → within k (bit_or a b) ≡ (within k a && within k b)
unfolding within
within_or k a b =
    equal_where _ _
    (λ h. let l = ltb-true (bit_or a b) (2 ^ k) h in
    both_of (lt-ltb a (2 ^ k) (lt_of_le_of_lt (or_above_l a b) l)) (lt-ltb b (2 ^ k) (lt_of_le_of_lt (or_above_r a b) l)))
    (λ h. let (p, q) = both (nat_lt a (2 ^ k)) (nat_lt b (2 ^ k)) h in lt-ltb (bit_or a b) (2 ^ k) (or_lt k a b (ltb-true a (2 ^ k) p) (ltb-true b (2 ^ k) q)))
  where
    or_above_l : (a b : ℕ) → a ≤ bit_or a b
    or_above_l a b = omega (arith, or_add_and a b, and_le_r a b)

    or_above_r : (a b : ℕ) → b ≤ bit_or a b
    or_above_r a b = omega (arith, or_add_and a b, and_le_l a b)

-- 0 has none
pub within_none : (k : ℕ) → within k 0 ≡ true
unfolding within
within_none k = lt-ltb 0 (2 ^ k) (pow_pos k)
