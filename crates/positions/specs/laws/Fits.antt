-- 17's range as bounds that `omega` reads: what fits lies in it, and what lies in it fits; and as that of the machine's 32 signed bits. Assumes nothing.
use Rattle.std.specs.Prelude.{◌+◌, ◌≤◌, true, false, ◌≡◌, ℤ, pos, negsuc}
use Rattle.std.proofs.lemmas.Bool.{false≢true}
use Rattle.std.specs.Int.Signed.{lt_z}
use Rattle.std.specs.Int.{w32}
use Rattle.std.proofs.Common.{SFits, arith}
use Rattle.whole.specs.laws.Whole.{up, dn, by_test, order, mag_by}
use Rattle.whole.specs.Fits.{fit_of, fits}

pub fits_by : (z : ℤ) → up z ≤ 2147483647 + dn z → dn z ≤ 2147483648 + up z → fits z ≡ true
unfolding fits fit_of
fits_by z h k =
    let low : lt_z z (negsuc 2147483647) ≡ false = omega order in
    let high : lt_z (pos 2147483647) z ≡ false = omega order in
    simp (low, high)

pub fits_says : (z : ℤ) → fits z ≡ true → (up z ≤ 2147483647 + dn z) × (dn z ≤ 2147483648 + up z)
unfolding fits fit_of
fits_says z h =
    by_test (lt_z z (negsuc 2147483647))
    (λ t. absurd (false≢true (simp t at h)))
    (λ t.
    by_test (lt_z (pos 2147483647) z)
    (λ u. absurd (false≢true (simp (t, u) at h)))
    (λ u. (omega order, omega order)))

pub fits_signed : (z : ℤ) → fits z ≡ true → SFits w32 z
fits_signed z h = let (high, low) = fits_says z h in record { sfits = mag_by z 2147483648 (omega arith) (omega arith) }
