-- What `fit_of` gives back: the number that was handed in, where it fits 32 signed bits, as a conversion that tests the bits does. Assumes nothing.
use Rattle.std.specs.Prelude.{◌≡◌, refl, true, false, ℕ, ◌^◌, ℤ, pos, negsuc, Option, Some, None, Result, Ok, Err}
use Rattle.std.proofs.Common.{arith, ap, SFits}
use Rattle.std.specs.Result.{OkIff, result_ok}
use Rattle.std.specs.Int.Signed.{lt_z}
use Rattle.std.specs.Int.{w32}
use Rattle.whole.specs.Fits.{fit_of}
use Rattle.whole.specs.laws.Whole.{by_test, order, mag_by}

pub fits_32 : (z : ℤ) → lt_z z (negsuc 2147483647) ≡ false → lt_z (pos 2147483647) z ≡ false → SFits w32 z
fits_32 z h k = record { sfits = mag_by z (2 ^ 31) (omega order) (omega order) }

-- a number that is given back is the number that was handed in, and it fits
pub number_is : (z x : ℤ) → fit_of z ≡ Some x → (x ≡ z) × SFits w32 z
unfolding fit_of
number_is z x h =
    by_test (lt_z z (negsuc 2147483647))
    (λ t. absurd (clash (simp t at h)))
    (λ t.
    by_test (lt_z (pos 2147483647) z)
    (λ u. absurd (clash (simp (t, u) at h)))
    (λ u. (same (simp (t, u) at h), fits_32 z t u)))
  where
    clash : ◌≡◌ {A = Option ℤ} None (Some x) → ⊥
    clash e = let q : ◌≡◌ {A = ℕ} 0 1 = cc in omega arith

    same : ◌≡◌ {A = Option ℤ} (Some z) (Some x) → x ≡ z
    same e = cc

-- a number that fits lies between the two bounds
above : (z : ℤ) → lt_z z (negsuc 2147483647) ≡ true → SFits w32 z → ⊥
above (pos n) e h = omega order
above (negsuc n) e h = omega (order, h.sfits)

below : (z : ℤ) → lt_z (pos 2147483647) z ≡ true → SFits w32 z → ⊥
below (pos n) e h = omega (order, h.sfits)
below (negsuc n) e h = omega order

-- a conversion that keeps what fits and refuses what does not
pub converted : {E : Type 0} (z : ℤ) (r : Result ℤ E) → OkIff r (SFits w32 z) z → result_ok r ≡ fit_of z
unfolding fit_of
converted z (Ok x) h =
    by_test (lt_z z (negsuc 2147483647))
    (λ t. absurd (above z t h.0))
    (λ t. by_test (lt_z (pos 2147483647) z) (λ u. absurd (below z u h.0)) (λ u. rw (t, u) (ap Some h.1)))
converted z (Err e) h =
    by_test (lt_z z (negsuc 2147483647))
    (λ t. rw t refl)
    (λ t. by_test (lt_z (pos 2147483647) z) (λ u. rw (t, u) refl) (λ u. absurd (h (fits_32 z t u))))
