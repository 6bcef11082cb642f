-- What `largest` means: no place of the first i positions lies within strict bounds; or it is one of them, lies within, and no other one that does is above it. Assumes nothing.
use Prim.Native.Nat.{ℕ, zero, suc, ◌<◌}
use Rattle.std.proofs.Math.Decide.{dec_lt}
use Rattle.std.proofs.Common.{arith, sym, ◌∙◌}
use Rattle.std.specs.Prelude.{true, false, List, ◌≡◌, refl, ℤ, pos, get_or}
use Rattle.std.proofs.lemmas.Bool.{false≢true}
use Rattle.std.proofs.Math.Option.{Option, none, some}
use Rattle.std.specs.Int.Signed.{lt_z, le_z}
use Rattle.whole.specs.laws.Whole.{by_test, order}
use Rattle.worklist.specs.Worklist.{Track, place_on, within, wider, largest}

module _ (r : Track) (gs : List ℤ) where
  abbrev pub at : ℕ → ℤ
  at i = place_on r (get_or gs i (pos 0))

  abbrev pub Top : ℕ → Option ℤ → Type 0
  Top n none = (i : ℕ) → i < n → within r (at i) ≡ false
  Top n (some m) = (within r m ≡ true) × ((i : ℕ) × (i < n) × (m ≡ at i)) × ((i : ℕ) → i < n → within r (at i) ≡ true → le_z (at i) m ≡ true)

  wider_top : (n : ℕ) (o : Option ℤ) → Top n o → Top (suc n) (wider r o (at n))
  wider_top n none h =
      by_test (within r (at n))
      (λ e. rw e (e, (n, omega arith, refl), λ i l t. elim (dec_lt i n) [ yes k ↦ absurd (false≢true (sym (h i k) ∙ t)) | no k ↦ (let q : i ≡ n = omega arith in rw q (omega order)) ]))
      (λ e. rw e (λ i l. elim (dec_lt i n) [ yes k ↦ h i k | no k ↦ (let q : i ≡ n = omega arith in rw q e) ]))
  wider_top n (some m) h =
      let (k₀, l₀, m≡) = h.1 in
      by_test (within r (at n))
      (λ e. by_test (lt_z m (at n))
      (λ u. rw (e, u) (e, (n, omega arith, refl), λ i l t. elim (dec_lt i n) [ yes k ↦ below i (at n) (h.2 i k t) u | no k ↦ (let q : i ≡ n = omega arith in rw q (omega order)) ]))
      (λ u. rw (e, u) (h.0, (k₀, omega arith, m≡), λ i l t. elim (dec_lt i n) [ yes k ↦ h.2 i k t | no k ↦ (let q : i ≡ n = omega arith in rw q (omega (order, u))) ])))
      (λ e. rw e (h.0, (k₀, omega arith, m≡), λ i l t. elim (dec_lt i n) [ yes k ↦ h.2 i k t | no k ↦ (let q : i ≡ n = omega arith in absurd (false≢true (sym e ∙ rw q at t))) ]))
    where
      below : (i : ℕ) (z : ℤ) → le_z (at i) m ≡ true → lt_z m z ≡ true → le_z (at i) z ≡ true
      below i z a b = omega order

  pub largest_top : (n : ℕ) → Top n (largest r gs n)
  unfolding largest
  largest_top zero = λ i l. absurd (omega arith)
  largest_top (suc n) = wider_top n (largest r gs n) (largest_top n)
