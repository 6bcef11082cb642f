-- Tests and casts of numbers, as the machine makes them: `==` compares the bits of two numbers, and a cast keeps a number that is not negative. Assumes nothing.
use Rattle.std.specs.Prelude.{ℕ, ◌^◌, true, false, ◌≡◌, refl, T, eqb, leb, ℤ, pos, negsuc, nat_abs}
use Rattle.std.proofs.Common.{arith, sym, ap, ◌∙◌, eq-eqb, ne_eqb, lt-ltb, Fits, SFits, to_z, of_z}
use Rattle.std.proofs.lemmas.Bool.{false≢true}
use Rattle.std.specs.Int.Signed.{le_z, non_neg}
use Rattle.std.specs.Int.{w32, w64}
use Rattle.whole.specs.Whole.{eq_z}
use Rattle.whole.specs.laws.Whole.{by_test, eq_by, eq_says, eq_means, eq_yes_by, eq_no_by, read}

pub other_32 : (a b : ℤ) → (of_z w32 a ≡ of_z w32 b → ⊥) → eq_z a b ≡ false
other_32 a b h = eq_no_by a b (λ q. h (ap (of_z w32) (eq_by a b q)))

module _ {a b : ℤ} where
  pub same_32 : SFits w32 a → SFits w32 b → of_z w32 a ≡ of_z w32 b → eq_z a b ≡ true
  same_32 f g h = eq_yes_by a b (eq_says a b (sym (read f) ∙ ap (to_z w32) h ∙ read g))

  pub bits_32 : SFits w32 a → SFits w32 b → eqb (of_z w32 a) (of_z w32 b) ≡ eq_z a b
  bits_32 f g =
      by_test (eq_z a b)
      (λ e. eq-eqb (of_z w32 a) (of_z w32 b) (ap (of_z w32) (eq_means a b e)) ∙ sym e)
      (λ e. ne_eqb (of_z w32 a) (of_z w32 b) (λ q. false≢true (sym e ∙ same_32 f g q)) ∙ sym e)

-- what a cast to a natural asks
pub cast_asks : (z : ℤ) → SFits w32 z → le_z (pos 0) z ≡ true → T (non_neg z) × Fits w32 (nat_abs z)
cast_asks (pos n) f e = (tt, omega (arith, f.sfits))
cast_asks (negsuc n) f e = absurd (false≢true e)

-- a number that is not negative is at most a natural where its natural is
pub natural_le : (z : ℤ) (m : ℕ) → le_z (pos 0) z ≡ true → le_z z (pos m) ≡ leb (nat_abs z) m
natural_le (pos n) m e = refl
natural_le (negsuc n) m e = absurd (false≢true e)

-- what the machine reads from a `u32` that it widened is that number: it is below 2 ^ 63, so it has no sign
pub entry : {x : ℕ} → Fits w32 x → to_z w64 x ≡ pos x
entry {x} f = rw (lt-ltb x (2 ^ 63) (omega (arith, f.fits)))
