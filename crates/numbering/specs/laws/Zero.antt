-- The missing zero: what a number 0 reads as, and where n. to c. can name one.
--     n_zero, c_zero, star_zero      n.0 reads as n.1, c.0 as c.-1, c.*0 as the last number of the CDS
--     before_cds                     what c.-1 is
--     zero_only, never_zero          n. to c. gives c.0 for n.0 alone, and only where the CDS starts at 0
--     zero_through, zero_there       what n.0 comes back as by way of c.
-- Assumes nothing.
use Rattle.std.specs.Prelude.{◌≡◌, refl, ℤ, negsuc, ◌+ℤ◌, ◌-ℤ◌, ◌≤ℤ◌}
use Rattle.std.proofs.Math.Path.{ap}
use Rattle.std.proofs.Math.Bool.{true, false}
use Rattle.std.proofs.Math.IntN.{pos}
use Rattle.std.specs.Int.Signed.{le_z, lt_z}
use Rattle.whole.specs.laws.Whole.{by_test, order, sum, dif}
use Rattle.numbering.specs.Numbers.{place_of_n, plain_c, star_c, c_of_n, n_of_c, skip_zero}

-- n.0 reads as n.1
pub n_zero : place_of_n (pos 0) ≡ place_of_n (pos 1)
unfolding place_of_n
n_zero = refl

module _ (s e : ℤ) where
  -- c.0 reads as c.-1, whatever the CDS
  pub c_zero : n_of_c s e (plain_c (pos 0)) ≡ n_of_c s e (plain_c (negsuc 0))
  unfolding n_of_c
  c_zero = ap skip_zero (omega (order, sum (pos 0) s, sum (negsuc 0) s, sum (negsuc 0 +ℤ s) (pos 1)))

  -- c.*0 reads as the last number of the CDS, and as c.0 where the CDS is empty
  pub star_zero : s ≤ℤ e → n_of_c s e (star_c (pos 0)) ≡ n_of_c s e (plain_c (e -ℤ s))
  unfolding n_of_c
  star_zero h =
      let up : lt_z (e -ℤ s) (pos 0) ≡ false = omega (order, dif e s) in
      rw up (ap skip_zero (omega (order, dif e s, sum (pos 0) e, sum (e -ℤ s) s)))

  -- c.-1 is the number before the CDS: n.s, and n.-1 where the CDS starts at 0
  pub before_cds : n_of_c s e (plain_c (negsuc 0)) ≡ skip_zero s
  unfolding n_of_c
  before_cds = ap skip_zero (omega (order, sum (negsuc 0) s, sum (negsuc 0 +ℤ s) (pos 1)))

  -- by way of c. n.0 comes back as n.1, where anything stands before the CDS
  pub zero_through : pos 1 ≤ℤ s → n_of_c s e (c_of_n s e (pos 0)) ≡ pos 1
  unfolding c_of_n n_of_c skip_zero
  zero_through h =
      let low : le_z (pos 0) s ≡ true = omega order in
      let neg : lt_z (pos 0 -ℤ s) (pos 0) ≡ true = omega (order, dif (pos 0) s) in
      let one : pos 0 -ℤ s +ℤ s +ℤ pos 1 ≡ pos 1 = omega (order, dif (pos 0) s, sum (pos 0 -ℤ s) s, sum (pos 0 -ℤ s +ℤ s) (pos 1)) in
      simp (low, neg, one)

-- n. to c. gives c.0, plain or with a star, for n.0 alone, and only where the CDS starts at 0
pub zero_only : (s e b : ℤ) → pos 0 ≤ℤ s → (c_of_n s e b).0 ≡ pos 0 → (b ≡ pos 0) × (s ≡ pos 0)
unfolding c_of_n
zero_only s e b start k =
    by_test (le_z b s)
    (λ t.
    by_test (lt_z (pos 0) b)
    (λ u.
    let base : b -ℤ s -ℤ pos 1 ≡ pos 0 = simp (t, u) at k in
    absurd (omega (order, dif b s, dif (b -ℤ s) (pos 1))))
    (λ u.
    let base : b -ℤ s ≡ pos 0 = simp (t, u) at k in
    (omega (order, dif b s), omega (order, dif b s))))
    (λ t.
    by_test (le_z b e)
    (λ u.
    let base : b -ℤ s ≡ pos 0 = simp (t, u) at k in
    absurd (omega (order, dif b s)))
    (λ u.
    let base : b -ℤ e ≡ pos 0 = simp (t, u) at k in
    absurd (omega (order, dif b e))))

-- there it does, and c.0 comes back as n.-1
pub zero_there : (e : ℤ) → (c_of_n (pos 0) e (pos 0) ≡ plain_c (pos 0)) × (n_of_c (pos 0) e (c_of_n (pos 0) e (pos 0)) ≡ negsuc 0)
unfolding c_of_n n_of_c skip_zero
zero_there e = (refl, refl)

-- so no number of a transcript, and none below 0, is named c.0
pub never_zero : (s e b : ℤ) → pos 0 ≤ℤ s → (b ≡ pos 0 → ⊥) → (c_of_n s e b).0 ≡ pos 0 → ⊥
never_zero s e b start h k = h (zero_only s e b start k).0
