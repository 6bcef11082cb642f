-- How large places, their turns and g. numbers can be. A `u32` and an `i32` are below 2 ^ 32 in size. Assumes nothing.
use Rattle.std.specs.Prelude.{if◌then◌else◌}
use Prim.Native.Nat.{ℕ}
use native.Mathlib.Omega.{arith}
use mathlib.Core.Bool.{Bool, true, false}
use mathlib.Core.Path.{◌≡◌}
use lib.IntN.{ℤ, pos, neg_ℤ, ◌+ℤ◌, ◌-ℤ◌}
use lib.Signed.{le_z}
use mir.Syntax.{w32}
use mir.Val.{Fits, SFits}
use Rattle.whole.specs.Whole.{Within}
use Rattle.whole.specs.laws.Whole.{order, dif, neg, mag_sum, mag_dif}
use Rattle.numbering.specs.Numbers.{place_of_n}
use Rattle.spots.specs.Mapping.{turned, signed}

-- the machine's change of sign is the definition's
pub negated : (z : ℤ) → pos 0 -ℤ z ≡ neg_ℤ z
negated z = omega (order, dif (pos 0) z, neg z)

pub signed_40 : (forward : Bool) {z : ℤ} → Within 38 z → Within 40 (signed forward z)
signed_40 true {z} h = omega (arith, h.within)
signed_40 false {z} h = omega (arith, h.within, rw (negated z) at (mag_dif (pos 0) z))

-- the turn of a place
module _ {len : ℕ} (f : Fits w32 len) where
  pub back_40 : {z : ℤ} → Within 38 z → Within 40 (pos len -ℤ pos 1 -ℤ z)
  back_40 {z} h = omega (arith, f.fits, h.within, mag_dif (pos len) (pos 1), mag_dif (pos len -ℤ pos 1) z)

  pub turned_40 : (forward : Bool) {z : ℤ} → Within 38 z → Within 40 (turned forward len z)
  unfolding turned
  turned_40 true h = omega (arith, h.within)
  turned_40 false h = back_40 h

  pub turned_36 : (forward : Bool) {z : ℤ} → Within 34 z → Within 36 (turned forward len z)
  unfolding turned
  turned_36 true h = omega (arith, h.within)
  turned_36 false {z} h = omega (arith, f.fits, h.within, mag_dif (pos len) (pos 1), mag_dif (pos len -ℤ pos 1) z)

-- the place of an n. number
pub of_n_34 : {n : ℤ} → SFits w32 n → Within 34 (place_of_n n)
unfolding place_of_n
of_n_34 {n} h = go (le_z (pos 1) n)
  where
    go : (t : Bool) → Within 34 (if t then n -ℤ pos 1 else n)
    go true = omega (arith, h.sfits, mag_dif n (pos 1))
    go false = omega (arith, h.sfits)

pub widen_34 : {z : ℤ} → Within 34 z → Within 38 z
widen_34 h = omega (arith, h.within)

-- a g. number from a place, in its three steps
module _ {p : ℤ} {first : ℕ} (h : Within 38 p) (f : Fits w32 first) where
  pub from_first_40 : Within 40 (p +ℤ pos first)
  from_first_40 = omega (arith, h.within, f.fits, mag_sum p (pos first))

  pub from_one_40 : Within 40 (p +ℤ pos first +ℤ pos 1)
  from_one_40 = omega (arith, h.within, f.fits, mag_sum p (pos first), mag_sum (p +ℤ pos first) (pos 1))

  pub with_own_42 : {o : ℤ} → Within 40 o → Within 42 (p +ℤ pos first +ℤ pos 1 +ℤ o)
  with_own_42 {o} k = omega (arith, h.within, f.fits, k.within, mag_sum p (pos first), mag_sum (p +ℤ pos first) (pos 1), mag_sum (p +ℤ pos first +ℤ pos 1) o)
