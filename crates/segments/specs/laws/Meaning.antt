-- What the tests of `Tables` mean: each is true exactly where the facts hold that it stands for. Assumes nothing.
use Rattle.std.specs.Prelude.{ℕ, zero, suc, ◌-◌, ◌≤◌, ◌<◌, Bool, true, ◌&&◌, ◌≡◌, refl, get_or}
use Rattle.std.proofs.Common.{not-suc-le-zero, le_of_suc-le-suc, eq-or-lt_of_le, le_refl, ⊎_elim, sym, subst}
use Rattle.std.proofs.Math.Nat.{le_step}
use Rattle.std.proofs.Math.Dec.{leb, eqb}
use borrow.Author.Tests.{leb-true, eqb-true, le-leb, eq-eqb}
use Rattle.whole.specs.laws.Whole.{both, both_of}
use Rattle.cigar.specs.Elements.{kind_of}
use Rattle.segments.specs.Tables.{Tables, all_below, step_right, steps_of, known_at, right_at, segments_hold, Holds}

-- `all_below f n` is true exactly where f is true at each number below n
pub all_at : (f : ℕ → Bool) (n : ℕ) → all_below f n ≡ true → (i : ℕ) → i < n → f i ≡ true
unfolding all_below
all_at f zero e i l = absurd (not-suc-le-zero l)
all_at f (suc n) e i l =
    ⊎_elim
    (λ (q : i ≡ n). subst (λ (k : ℕ). f k ≡ true) (sym q) (both (all_below f n) (f n) e).1)
    (λ (q : i < n). all_at f n (both (all_below f n) (f n) e).0 i q)
    (eq-or-lt_of_le (le_of_suc-le-suc l))

pub all_of : (f : ℕ → Bool) (n : ℕ) → ((i : ℕ) → i < n → f i ≡ true) → all_below f n ≡ true
unfolding all_below
all_of f zero h = refl
all_of f (suc n) h = both_of (all_of f n (λ i l. h i (le_step l))) (h n (le_refl (suc n)))

-- the parts of one segment's test
module _ (c g₀ g₁ t₀ t₁ : ℕ) where
  right_parts : step_right c g₀ g₁ t₀ t₁ ≡ true → (g₀ ≤ g₁) × (t₀ ≤ t₁) × (steps_of (kind_of c) (g₁ - g₀) (t₁ - t₀) ≡ true)
  unfolding step_right
  right_parts e =
      let (up, steps) = both (leb g₀ g₁ && leb t₀ t₁) (steps_of (kind_of c) (g₁ - g₀) (t₁ - t₀)) e in
      let (g_up, t_up) = both (leb g₀ g₁) (leb t₀ t₁) up in
      (leb-true g₀ g₁ g_up, leb-true t₀ t₁ t_up, steps)

  right_of : g₀ ≤ g₁ → t₀ ≤ t₁ → steps_of (kind_of c) (g₁ - g₀) (t₁ - t₀) ≡ true → step_right c g₀ g₁ t₀ t₁ ≡ true
  unfolding step_right
  right_of p q e = both_of (both_of (le-leb g₀ g₁ p) (le-leb t₀ t₁ q)) e

-- `segments_hold` is true exactly where `Holds` holds
module _ (a : Tables) (n : ℕ) where
  pub holds_means : segments_hold a n ≡ true → Holds a n
  unfolding segments_hold
  holds_means e =
      let g_test = eqb (get_or a.genome 0 0) 0 in
      let t_test = eqb (get_or a.transcript 0 0) 0 in
      let (begins, segments) = both (g_test && t_test) (all_below (known_at a.letters) n && all_below (right_at a) n) e in
      let (g_begins, t_begins) = both g_test t_test begins in
      let (letters, rights) = both (all_below (known_at a.letters) n) (all_below (right_at a) n) segments in
      let right = all_at (right_at a) n rights in
      record {
        genome_from_0 = eqb-true (get_or a.genome 0 0) 0 g_begins;
        transcript_from_0 = eqb-true (get_or a.transcript 0 0) 0 t_begins;
        letters = all_at (known_at a.letters) n letters;
        genome_rises = record { each = λ i below. (right_parts _ _ _ _ _ (right i below)).0 };
        transcript_rises = record { each = λ i below. (right_parts _ _ _ _ _ (right i below)).1 };
        steps = λ i below. (right_parts _ _ _ _ _ (right i below)).2;
      }

  pub holds_where : Holds a n → segments_hold a n ≡ true
  unfolding segments_hold
  holds_where h =
      both_of
      (both_of (eq-eqb (get_or a.genome 0 0) 0 h.genome_from_0) (eq-eqb (get_or a.transcript 0 0) 0 h.transcript_from_0))
      (both_of (all_of (known_at a.letters) n h.letters) (all_of (right_at a) n (λ i below. right_of _ _ _ _ _ (h.genome_rises.each i below) (h.transcript_rises.each i below) (h.steps i below))))
