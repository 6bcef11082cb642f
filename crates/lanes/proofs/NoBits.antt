-- Numbers of no bits. Assumes nothing.
use Rattle.std.proofs.Common.{◌≡◌, ℕ, ◌+◌, ◌-◌, ◌%◌, ◌^◌, ◌<◌, eqb, arith, ltb-true, lt-ltb, eq-eqb, eqb-true}
use Rattle.numbered.specs.laws.All.{equal_where}
use Rattle.stepping.specs.Steps.{within}

-- a number of no bits is 0
pub none_is : (n : ℕ) → eqb n 0 ≡ within 0 n
unfolding within
none_is n =
    equal_where _ _
    (λ h. lt-ltb n 1 (omega (arith, eqb-true n 0 h)))
    (λ h. eq-eqb n 0 (omega (arith, ltb-true n 1 h)))

-- a difference that wraps has no bits where its two numbers are equal
pub apart_is : (a b : ℕ) → a < 2 ^ 32 → b < 2 ^ 32 → within 0 ((a + (2 ^ 32 - b)) % 2 ^ 32) ≡ eqb a b
unfolding within
apart_is a b a< b< =
    equal_where _ _
    (λ h. let l = ltb-true ((a + (2 ^ 32 - b)) % 2 ^ 32) 1 h in eq-eqb a b (omega arith))
    (λ h. let q = eqb-true a b h in lt-ltb ((a + (2 ^ 32 - b)) % 2 ^ 32) 1 (omega arith))
