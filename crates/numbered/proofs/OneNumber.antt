-- One step of the exon numbers, computed with a difference that wraps. Assumes nothing.
use Rattle.std.proofs.Common.{◌≡◌, ℕ, zero, suc, ◌+◌, ◌-◌, ◌%◌, ◌^◌, ◌<◌, ◌≤◌, ◌&&◌, eqb, leb, arith, eq-eqb, eqb-true, le-leb, leb-false, leb-true}
use lib.Bits.{bit_or, or_add_and, and_le_l, and_le_r}
use Rattle.whole.specs.laws.Whole.{by_test, both, both_of}
use Rattle.cigar.specs.Elements.{letter_n}
use Rattle.numbered.specs.Numbers.{wrapped16, most_after}
use Rattle.numbered.specs.laws.All.{equal_where}

-- no bit of either
pub none_or : (a b : ℕ) → eqb (bit_or a b) 0 ≡ (eqb a 0 && eqb b 0)
none_or a b =
    equal_where _ _
    (λ h. let none = eqb-true (bit_or a b) 0 h in
    both_of (eq-eqb a 0 (omega (arith, or_add_and a b, and_le_r a b, none))) (eq-eqb b 0 (omega (arith, or_add_and a b, and_le_l a b, none))))
    (λ h. let (p, q) = both (eqb a 0) (eqb b 0) h in
    let no_a = eqb-true a 0 p in
    let no_b = eqb-true b 0 q in
    eq-eqb (bit_or a b) 0 (omega (arith, or_add_and a b, no_a, no_b)))

-- a difference that wraps, by name
pub wrapped16_is : (a b d : ℕ) → a < 2 ^ 16 → b < 2 ^ 16 → d < 2 ^ 16 → (d + b) % 2 ^ 16 ≡ a → d ≡ wrapped16 a b
unfolding wrapped16
wrapped16_is a b d a< b< d< e =
    by_test (leb b a)
    (λ t. let l = leb-true b a t in rw t (omega arith))
    (λ t. let l = leb-false b a t in rw t (omega arith))

-- the one that the machine computes
pub wrapped16_sub : (a b : ℕ) → a < 2 ^ 16 → b < 2 ^ 16 → (a + (2 ^ 16 - b)) % 2 ^ 16 ≡ wrapped16 a b
wrapped16_sub a b a< b< = wrapped16_is a b _ a< b< (omega arith) (omega arith)

-- nothing is above exactly where the step is no more than the most
pub none_above : (step most : ℕ) → eqb (step - most) 0 ≡ leb step most
none_above step most =
    equal_where _ _
    (λ h. let e = eqb-true (step - most) 0 h in le-leb step most (omega arith))
    (λ h. let l = leb-true step most h in eq-eqb (step - most) 0 (omega arith))

-- the most is 0 or 1
pub most_small : (c : ℕ) → most_after c ≤ 1
unfolding most_after
most_small c = by_test (eqb c letter_n) (λ t. rw t (omega arith)) (λ t. rw t (omega arith))

-- to a most of 0 or 1 a step adds no bit exactly where it is no more
pub no_bit_more : (step most : ℕ) → most ≤ 1 → eqb (bit_or step most) most ≡ leb step most
no_bit_more step most small =
    equal_where _ _
    (λ h. let e = eqb-true (bit_or step most) most h in le-leb step most (omega (arith, or_add_and step most, and_le_r step most, e)))
    (λ h. eq-eqb (bit_or step most) most (same step most small (leb-true step most h)))
  where
    same : (a b : ℕ) → b ≤ 1 → a ≤ b → bit_or a b ≡ b
    same zero b b≤ a≤ = omega (arith, or_add_and 0 b, and_le_l 0 b)
    same (suc zero) b b≤ a≤ = let e : b ≡ 1 = omega arith in rw e
    same (suc (suc a)) b b≤ a≤ = omega arith
