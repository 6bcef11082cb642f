-- How large the numbers of a spot can be. A place below 2 ^ 36 in size, an entry below 2 ^ 32 and a 1 come to less than 2 ^ 37. Assumes nothing.
use Prim.Native.Nat.{ℕ}
use native.Mathlib.Omega.{arith}
use mathlib.Core.Path.{◌≡◌}
use lib.IntN.{ℤ, pos, neg_ℤ, ◌+ℤ◌, ◌-ℤ◌}
use mir.Syntax.{w32, w64}
use mir.Val.{Fits, SFits}
use Rattle.whole.specs.Whole.{Within}
use Rattle.whole.specs.laws.Whole.{order, dif, neg, mag_sum, mag_dif}

-- the machine's change of sign is the definition's
pub negated : (z : ℤ) → pos 0 -ℤ z ≡ neg_ℤ z
negated z = omega (order, dif (pos 0) z, neg z)

pub fits_36 : {z : ℤ} → Within 36 z → SFits w64 z
fits_36 w = omega (arith, w.within)

pub fits_37 : {z : ℤ} → Within 37 z → SFits w64 z
fits_37 w = omega (arith, w.within)

module _ {x : ℕ} (f : Fits w32 x) where
  pub before_37 : Within 37 (pos x -ℤ pos 1)
  before_37 = omega (arith, f.fits, mag_dif (pos x) (pos 1))

  pub entry_37 : Within 37 (pos x)
  entry_37 = omega (arith, f.fits)

module _ {z : ℤ} (w : Within 37 z) where
  pub back_38 : Within 38 (neg_ℤ z)
  back_38 = omega (arith, w.within, rw (negated z) at (mag_dif (pos 0) z))

  pub next_38 : Within 38 (z +ℤ pos 1)
  next_38 = omega (arith, w.within, mag_sum z (pos 1))

-- a place p, and an entry x: how far p is along a segment that begins at x, one more, and how far it is from one that ends there
module _ {p : ℤ} {x : ℕ} (w : Within 36 p) (f : Fits w32 x) where
  pub along_37 : Within 37 (p -ℤ pos x)
  along_37 = omega (arith, w.within, f.fits, mag_dif p (pos x))

  pub left_37 : Within 37 (p -ℤ pos x +ℤ pos 1)
  left_37 = omega (arith, w.within, f.fits, mag_dif p (pos x), mag_sum (p -ℤ pos x) (pos 1))

  pub right_37 : Within 37 (pos x -ℤ p)
  right_37 = omega (arith, w.within, f.fits, mag_dif (pos x) p)

  pub place_37 : {y : ℕ} → Fits w32 y → Within 37 (pos y +ℤ (p -ℤ pos x))
  place_37 {y} h = omega (arith, w.within, f.fits, h.fits, mag_dif p (pos x), mag_sum (pos y) (p -ℤ pos x))
