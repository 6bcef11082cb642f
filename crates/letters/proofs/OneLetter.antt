-- A letter's number above an M's, which wraps, tells a common letter. Assumes nothing.
use Rattle.std.proofs.Common.{◌≡◌, ℕ, ◌+◌, ◌%◌, ◌^◌, ◌<◌, Bool, true, false, cond, ◌||◌, eqb, sym, refl, ◌∙◌, arith, ltb-true, lt-ltb, eq-eqb, eqb-true}
use borrow.Author.Tests.{eqb-false}
use Rattle.whole.specs.laws.Whole.{by_test}
use Rattle.cigar.specs.Elements.{letter_equal, letter_m, letter_n, letter_x}
use Rattle.numbered.specs.laws.All.{equal_where}
use Rattle.stepping.specs.Steps.{within}
use Rattle.stepping.specs.laws.OneStep.{within_none}
use Rattle.letters.specs.Letters.{is_common}

-- a letter's number above an M's, which wraps: 0 for an M, 1 for an N, else more
m_or_n : (c d : ℕ) → c < 2 ^ 8 → d < 2 ^ 8 → (d + letter_m) % 2 ^ 8 ≡ c → within 1 d ≡ (eqb c letter_m || eqb c letter_n)
unfolding within
m_or_n c d c< d< e =
    equal_where _ _
    (λ h. let l = ltb-true d 2 h in
    by_test (eqb c letter_m)
    (λ m. rw m)
    (λ m. let other = eqb-false c letter_m m in rw (m, eq-eqb c letter_n (other_n other l))))
    (λ h.
    by_test (eqb c letter_m)
    (λ m. let is = eqb-true c letter_m m in lt-ltb d 2 (omega (arith, is, e, d<)))
    (λ m. let is = eqb-true c letter_n (rw m at h) in lt-ltb d 2 (omega (arith, is, e, d<))))
  where
    other_n : (c ≡ letter_m → ⊥) → d < 2 → c ≡ letter_n
    other_n other l = omega (arith, other, l, e)

-- the same where = and X count as an M: 0 or 1 for a common letter, else more
pub common_is : (c d : ℕ) → c < 2 ^ 8 → d < 2 ^ 8 → (d + letter_m) % 2 ^ 8 ≡ c → within 1 (cond (eqb c letter_equal || eqb c letter_x) 0 d) ≡ is_common c
unfolding is_common
common_is c d c< d< e =
    by_test (eqb c letter_equal)
    (λ is. rw is (within_none 1))
    (λ no.
    by_test (eqb c letter_x)
    (λ is. rw (no, is) (within_none 1 ∙ sym (last_of_three (eqb c letter_m) (eqb c letter_n))))
    (λ not. rw (no, not) (m_or_n c d c< d< e ∙ two_of_three (eqb c letter_m) (eqb c letter_n))))
  where
    last_of_three : (m n : Bool) → (m || n || true) ≡ true
    last_of_three true n = refl
    last_of_three false true = refl
    last_of_three false false = refl

    two_of_three : (m n : Bool) → (m || n) ≡ (m || n || false)
    two_of_three true n = refl
    two_of_three false true = refl
    two_of_three false false = refl
