-- Refusal 17: numbers that are small enough fit. Assumes nothing.
use Prim.Native.Nat.{ℕ, ◌+◌, ◌≤◌, ◌<◌}
use native.Mathlib.Omega.{arith}
use mathlib.Core.Bool.{Bool, true, false}
use mathlib.Core.Path.{◌≡◌}
use lib.IntN.{ℤ, pos, ◌-ℤ◌}
use lib.Signed.{le_z, lt_z}
use Rattle.refusals.specs.Numbers.{most_bases}
use Rattle.whole.specs.laws.Whole.{by_test, order, dif, neg, up, dn}
use Rattle.whole.specs.Fits.{fits}
use Rattle.numbering.specs.Numbers.{c_of_n}
use Rattle.positions.specs.laws.Fits.{fits_by}
use Rattle.spots.specs.Mapping.{signed}

-- z is at most m in size
pub record Within (m : ℕ) (z : ℤ) : Type 0 where
  pub high : up z ≤ m + dn z
  pub low : dn z ≤ m + up z

pub within_fits : (m : ℕ) (z : ℤ) → m ≤ most_bases + 1 → Within m z → fits z ≡ true
within_fits m z small h = fits_by z (omega (arith, h.high)) (omega (arith, h.low))

pub signed_within : (forward : Bool) (m : ℕ) (o : ℤ) → Within m o → Within m (signed forward o)
signed_within true m o h = h
signed_within false m o h = record { high = omega (arith, neg o); low = omega (arith, neg o) }

-- a c. number of an n. number that the transcript has
pub c_within : (s e b m : ℕ) → s ≤ e → e ≤ m → 0 < b → b ≤ m → Within (m + 1) (c_of_n (pos s) (pos e) (pos b)).0
unfolding c_of_n
c_within s e b m ordered e_in some b_in =
    let above : lt_z (pos 0) (pos b) ≡ true = omega order in
    by_test (le_z (pos b) (pos s))
    (λ t. rw (t, above) (record { high = omega (order, dif (pos b) (pos s), dif (pos b -ℤ pos s) (pos 1)); low = omega (order, dif (pos b) (pos s), dif (pos b -ℤ pos s) (pos 1)) }))
    (λ t.
    by_test (le_z (pos b) (pos e))
    (λ u. rw (t, u) (record { high = omega (order, dif (pos b) (pos s)); low = omega (order, dif (pos b) (pos s)) }))
    (λ u. rw (t, u) (record { high = omega (order, dif (pos b) (pos e)); low = omega (order, dif (pos b) (pos e)) })))
