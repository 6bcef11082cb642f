-- The number of a place's segment: what is so of it, and that it is the only such number. Assumes nothing.
use Prim.Native.Nat.{ℕ, zero, suc, ◌+◌, ◌-◌, ◌≤◌, ◌<◌}
use native.Mathlib.Omega.{arith}
use Rattle.std.specs.Prelude.{Bool, true, false, List, ◌≡◌, ltb, ℤ, pos, get_or}
use Rattle.std.proofs.lemmas.Bool.{false≢true}
use Rattle.std.proofs.Common.{sym, ap, ◌∙◌, ltb-true, ltb-false}
use Rattle.std.proofs.Math.Path.{subst}
use Rattle.std.specs.Int.Signed.{lt_z, le_z}
use Rattle.whole.specs.laws.Whole.{order, by_test}
use Rattle.finding.specs.Finding.{first_below, ends_above, index_of}

-- of the numbers below n, i is the first at which f is true, or else the last
pub record Found (f : ℕ → Bool) (n i : ℕ) : Type 0 where
  pub below : i < n
  pub passed : (k : ℕ) → k < i → f k ≡ false
  pub here : i + 1 < n → f i ≡ true

first_says : (f : ℕ → Bool) (n : ℕ) → Found f (suc n) (first_below f n)
unfolding first_below
first_says f zero = record { below = omega arith; passed = λ k l. absurd (omega arith); here = λ l. absurd (omega arith) }
first_says f (suc n) =
    by_test (f 0)
    (λ e. rw e (record { below = omega arith; passed = λ k l. absurd (omega arith); here = λ l. e }))
    (λ e.
    let s = first_says (λ (i : ℕ). f (suc i)) n in
    rw e (record { below = omega (arith, s.below); passed = one_more e s.passed; here = λ l. s.here (omega arith) }))
  where
    one_more : {i : ℕ} → f 0 ≡ false → ((k : ℕ) → k < i → f (suc k) ≡ false) → (k : ℕ) → k < suc i → f k ≡ false
    one_more e h zero l = e
    one_more e h (suc k) l = h k (omega arith)

first_is : (f : ℕ → Bool) (n i : ℕ) → Found f (suc n) i → i ≡ first_below f n
unfolding first_below
first_is f zero i s = omega (arith, s.below)
first_is f (suc n) zero s = rw (s.here (omega arith))
first_is f (suc n) (suc i) s =
    rw (s.passed 0 (omega arith))
    (ap suc (first_is (λ (k : ℕ). f (suc k)) n i (record { below = omega (arith, s.below); passed = λ k l. s.passed (suc k) (omega arith); here = λ l. s.here (omega arith) })))

-- `index_of` is what it says, and nothing else is
module _ (from : List ℕ) (n : ℕ) (p : ℤ) where
  pub index_says : 0 < n → Found (ends_above from p) n (index_of from n p)
  unfolding index_of
  index_says some = let v : n ≡ suc (n - 1) = omega arith in subst (λ (m : ℕ). Found (ends_above from p) m (index_of from n p)) (sym v) (first_says (ends_above from p) (n - 1))

  pub index_is : {i : ℕ} → Found (ends_above from p) n i → i ≡ index_of from n p
  unfolding index_of
  index_is {i} s = let v : n ≡ suc (n - 1) = omega (arith, s.below) in first_is (ends_above from p) (n - 1) i (subst (λ (m : ℕ). Found (ends_above from p) m i) v s)

-- a test that is passed wherever another is, is passed no later
first_sooner : (f g : ℕ → Bool) → ((i : ℕ) → g i ≡ true → f i ≡ true) → (n : ℕ) → first_below f n ≤ first_below g n
unfolding first_below
first_sooner f g h zero = omega arith
first_sooner f g h (suc n) =
    by_test (g 0)
    (λ e. let sooner : f 0 ≡ true = h 0 e in rw (e, sooner) (omega arith))
    (λ e.
    by_test (f 0)
    (λ u. rw (e, u) (omega arith))
    (λ u. rw (e, u) (omega (arith, first_sooner (λ (i : ℕ). f (suc i)) (λ (i : ℕ). g (suc i)) (λ i. h (suc i)) n))))

-- the segment of a later place is that of an earlier one, or lies behind it: over any table
pub index_rises : (from : List ℕ) (n : ℕ) (p q : ℤ) → le_z p q ≡ true → index_of from n p ≤ index_of from n q
unfolding index_of
index_rises from n p q p≤q = first_sooner (ends_above from p) (ends_above from q) (λ i e. omega order) (n - 1)

-- what a walk goes by that stands on the segment i, which is not past the one sought: at an end above the place it has arrived, at any other it goes on, and the last is where it ends
module _ (from : List ℕ) (n : ℕ) (p : ℤ) (some : 0 < n) (i : ℕ) (before : i ≤ index_of from n p) where
  pub walk_arrives : ends_above from p i ≡ true → i ≡ index_of from n p
  walk_arrives e =
      by_test (ltb i (index_of from n p))
      (λ l. absurd (false≢true (sym ((index_says from n p some).passed i (ltb-true _ _ l)) ∙ e)))
      (λ l. omega (arith, ltb-false))

  pub walk_goes_on : i + 1 < n → ends_above from p i ≡ false → i + 1 ≤ index_of from n p
  walk_goes_on l e =
      by_test (ltb i (index_of from n p))
      (λ h. omega (arith, ltb-true))
      (λ h.
      let here : i ≡ index_of from n p = omega (arith, ltb-false) in
      absurd (false≢true (sym e ∙ ap (ends_above from p) here ∙ (index_says from n p some).here (omega arith))))

  pub walk_ends : n ≤ i + 1 → i ≡ index_of from n p
  walk_ends l = omega (arith, (index_says from n p some).below)

-- tables that have the same ends find the same segment
pub same_index : (a b : List ℕ) (n : ℕ) (p : ℤ) → 0 < n → ((k : ℕ) → k ≤ n → get_or a k 0 ≡ get_or b k 0) → index_of a n p ≡ index_of b n p
same_index a b n p some same =
    let s = index_says a n p some in
    let ends : (k : ℕ) → k < n → ends_above b p k ≡ ends_above a p k = λ k l. ap (λ (e : ℕ). lt_z p (pos e)) (sym (same (k + 1) (omega arith))) in
    index_is b n p (record { below = s.below; passed = λ k l. ends k (omega (arith, s.below)) ∙ s.passed k l; here = λ l. ends (index_of a n p) (omega arith) ∙ s.here l })
