-- What stays when bases are added upstream, the c. number of a place; and what goes up with them, the n. number of a place and of a c. number. Assumes nothing.
use Rattle.std.specs.Prelude.{if◌then◌else◌}
use Prim.Native.Nat.{ℕ, ◌+◌}
use mathlib.Core.Bool.{Bool, true, false, cond}
use mathlib.Core.Path.{◌≡◌, refl, sym, ◌∙◌}
use lib.IntN.{ℤ, pos, ◌+ℤ◌, ◌-ℤ◌}
use lib.Signed.{le_z, lt_z}
use Rattle.whole.specs.laws.Whole.{by_test, order, sum, dif}
use Rattle.numbering.specs.Numbers.{n_of_place, plain_c, star_c, c_of_n, n_of_c, skip_zero}
use Rattle.numbering.specs.declared.CNumber.{CNumber}
use Rattle.spots.specs.Mapping.{turned}

-- ---- the c. number of a place: it goes by the distances to the CDS's bounds alone

abbrev c_of_place : ℤ → ℤ → ℤ → CNumber
c_of_place s e z =
    if lt_z z s then plain_c (z -ℤ s)
    else if lt_z z e then plain_c (z -ℤ s +ℤ pos 1)
    else star_c (z -ℤ e +ℤ pos 1)

n_up : (z : ℤ) → le_z (pos 0) z ≡ true → n_of_place z ≡ z +ℤ pos 1
unfolding n_of_place
n_up z h = rw h

n_down : (z : ℤ) → le_z (pos 0) z ≡ false → n_of_place z ≡ z
unfolding n_of_place
n_down z h = rw h

c_of_place_lem : (s e : ℕ) (z : ℤ) → c_of_n (pos s) (pos e) (n_of_place z) ≡ c_of_place (pos s) (pos e) z
unfolding c_of_n
c_of_place_lem s e z =
    by_test (le_z (pos 0) z)
    (λ h.
    let above : lt_z (pos 0) (z +ℤ pos 1) ≡ true = omega (order, sum z (pos 1)) in
    rw (n_up z h)
    (by_test (lt_z z (pos s))
    (λ t.
    let low : le_z (z +ℤ pos 1) (pos s) ≡ true = omega (order, sum z (pos 1)) in
    let v : z +ℤ pos 1 -ℤ pos s -ℤ pos 1 ≡ z -ℤ pos s = omega (order, sum z (pos 1), dif (z +ℤ pos 1) (pos s), dif (z +ℤ pos 1 -ℤ pos s) (pos 1), dif z (pos s)) in
    rw (t, low, above, v))
    (λ t.
    let low : le_z (z +ℤ pos 1) (pos s) ≡ false = omega (order, sum z (pos 1)) in
    by_test (lt_z z (pos e))
    (λ u.
    let high : le_z (z +ℤ pos 1) (pos e) ≡ true = omega (order, sum z (pos 1)) in
    let v : z +ℤ pos 1 -ℤ pos s ≡ z -ℤ pos s +ℤ pos 1 = omega (order, sum z (pos 1), dif (z +ℤ pos 1) (pos s), dif z (pos s), sum (z -ℤ pos s) (pos 1)) in
    rw (t, low, u, high, v))
    (λ u.
    let high : le_z (z +ℤ pos 1) (pos e) ≡ false = omega (order, sum z (pos 1)) in
    let v : z +ℤ pos 1 -ℤ pos e ≡ z -ℤ pos e +ℤ pos 1 = omega (order, sum z (pos 1), dif (z +ℤ pos 1) (pos e), dif z (pos e), sum (z -ℤ pos e) (pos 1)) in
    rw (t, low, u, high, v)))))
    (λ h.
    let low : le_z z (pos s) ≡ true = omega order in
    let below : lt_z (pos 0) z ≡ false = omega order in
    let t : lt_z z (pos s) ≡ true = omega order in
    rw (n_down z h, low, below, t))

-- so it stays when the place and the bounds go up alike
pub c_stays : (up s e : ℕ) (z : ℤ) → c_of_n (pos (s + up)) (pos (e + up)) (n_of_place (pos up +ℤ z)) ≡ c_of_n (pos s) (pos e) (n_of_place z)
c_stays up s e z =
    let w = pos up +ℤ z in
    let v : w -ℤ pos (s + up) ≡ z -ℤ pos s = omega (order, sum (pos up) z, dif w (pos (s + up)), dif z (pos s)) in
    let v' : w -ℤ pos (e + up) ≡ z -ℤ pos e = omega (order, sum (pos up) z, dif w (pos (e + up)), dif z (pos e)) in
    c_of_place_lem (s + up) (e + up) w
    ∙ (by_test (lt_z z (pos s))
    (λ t.
    let t' : lt_z w (pos (s + up)) ≡ true = omega (order, sum (pos up) z) in
    rw (t, t', v))
    (λ t.
    let t' : lt_z w (pos (s + up)) ≡ false = omega (order, sum (pos up) z) in
    by_test (lt_z z (pos e))
    (λ u.
    let u' : lt_z w (pos (e + up)) ≡ true = omega (order, sum (pos up) z) in
    rw (t, t', u, u', v))
    (λ u.
    let u' : lt_z w (pos (e + up)) ≡ false = omega (order, sum (pos up) z) in
    rw (t, t', u, u', v'))))
    ∙ sym (c_of_place_lem s e z)

-- ---- the n. number of a place goes up, if it is above 0

pub place_goes_up : (up : ℕ) (z : ℤ) → le_z (n_of_place z) (pos 0) ≡ false → n_of_place (pos up +ℤ z) ≡ pos up +ℤ n_of_place z
place_goes_up up z p =
    by_test (le_z (pos 0) z)
    (λ h.
    let h' : le_z (pos 0) (pos up +ℤ z) ≡ true = omega (order, sum (pos up) z) in
    rw (n_up z h, n_up (pos up +ℤ z) h') (omega (order, sum (pos up) z, sum (pos up +ℤ z) (pos 1), sum z (pos 1), sum (pos up) (z +ℤ pos 1))))
    (λ h. absurd (omega (order, n_down z h)))

-- ---- the n. number of a c. number goes up, if it is above 0

skip_stays : (up : ℕ) (r : ℤ) → le_z (skip_zero r) (pos 0) ≡ false → skip_zero (pos up +ℤ r) ≡ pos up +ℤ skip_zero r
unfolding skip_zero
skip_stays up r =
    by_test (le_z r (pos 0))
    (λ t. rw t (λ p. absurd (omega (order, dif r (pos 1)))))
    (λ t. rw t (λ p.
    let t' : le_z (pos up +ℤ r) (pos 0) ≡ false = omega (order, sum (pos up) r) in
    rw t'))

module _ (up s e : ℕ) where
  n_of_c_lem : (b : ℤ) (star : Bool) → le_z (n_of_c (pos s) (pos e) (record { 0 = b; 1 = star })) (pos 0) ≡ false
      → n_of_c (pos (s + up)) (pos (e + up)) (record { 0 = b; 1 = star }) ≡ pos up +ℤ n_of_c (pos s) (pos e) (record { 0 = b; 1 = star })
  unfolding n_of_c
  n_of_c_lem b true =
      λ p.
      let v : b +ℤ pos (e + up) ≡ pos up +ℤ (b +ℤ pos e) = omega (order, sum b (pos (e + up)), sum b (pos e), sum (pos up) (b +ℤ pos e)) in
      rw v (skip_stays up (b +ℤ pos e) p)
  n_of_c_lem b false =
      by_test (lt_z b (pos 0))
      (λ t. rw t (λ p.
      let v : b +ℤ pos (s + up) +ℤ pos 1 ≡ pos up +ℤ (b +ℤ pos s +ℤ pos 1) = omega (order, sum b (pos (s + up)), sum (b +ℤ pos (s + up)) (pos 1), sum b (pos s), sum (b +ℤ pos s) (pos 1), sum (pos up) (b +ℤ pos s +ℤ pos 1)) in
      rw v (skip_stays up (b +ℤ pos s +ℤ pos 1) p)))
      (λ t. rw t (λ p.
      let v : b +ℤ pos (s + up) ≡ pos up +ℤ (b +ℤ pos s) = omega (order, sum b (pos (s + up)), sum b (pos s), sum (pos up) (b +ℤ pos s)) in
      rw v (skip_stays up (b +ℤ pos s) p)))

  pub n_goes_up : (c : CNumber) → le_z (n_of_c (pos s) (pos e) c) (pos 0) ≡ false → n_of_c (pos (s + up)) (pos (e + up)) c ≡ pos up +ℤ n_of_c (pos s) (pos e) c
  n_goes_up c p = n_of_c_lem c.0 c.1 p

-- ---- the turn: with a more before and b more after, along the genome, a place that counts along the genome and one that counts along the transcript

module _ (a b len : ℕ) where
  pub turn_there : (forward : Bool) (z : ℤ) → turned forward (a + (len + b)) (pos a +ℤ z) ≡ pos (cond forward a b) +ℤ turned forward len z
  unfolding turned
  turn_there true z = refl
  turn_there false z =
      let w = pos a +ℤ z in
      omega (order, sum (pos a) z, dif (pos (a + (len + b))) (pos 1), dif (pos (a + (len + b)) -ℤ pos 1) w, dif (pos len) (pos 1), dif (pos len -ℤ pos 1) z, sum (pos b) (pos len -ℤ pos 1 -ℤ z))

  pub turn_back : (forward : Bool) (z : ℤ) → turned forward (a + (len + b)) (pos (cond forward a b) +ℤ z) ≡ pos a +ℤ turned forward len z
  unfolding turned
  turn_back true z = refl
  turn_back false z =
      let w = pos b +ℤ z in
      omega (order, sum (pos b) z, dif (pos (a + (len + b))) (pos 1), dif (pos (a + (len + b)) -ℤ pos 1) w, dif (pos len) (pos 1), dif (pos len -ℤ pos 1) z, sum (pos a) (pos len -ℤ pos 1 -ℤ z))
