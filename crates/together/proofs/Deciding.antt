-- That the passes over the tables decide. Where segments hold together and the last entries are low, all entries are low, as they rise; and where all steps are short, or steps and ends are low, no difference has wrapped, so that the steps are what they seem. Assumes nothing.
use Prim.Native.Nat.{ℕ, zero, suc, ◌+◌, ◌*◌, ◌-◌, ◌^◌, ◌≤◌, ◌<◌}
use native.Mathlib.Nat.{lt_of_le_of_lt}
use native.Mathlib.Numerals.{add-one}
use native.Mathlib.Omega.{arith}
use mathlib.Core.Bool.{Bool, true, false, cond, ◌&&◌, ◌||◌, false≢true}
use mathlib.Core.List.{List}
use mathlib.Core.Path.{◌≡◌, refl, sym, ◌∙◌}
use lib.Dec.{eqb, leb}
use lib.ListN.{get_or}
use borrow.Author.Tests.{eqb-true, eq-eqb, leb-true, le-leb, ltb-true, lt-ltb}
use Rattle.whole.specs.laws.Whole.{by_test, both, both_of}
use Rattle.cigar.specs.Elements.{is_letter, kind_of, letter_d, letter_equal, letter_i, letter_m, letter_n, letter_x}
use Rattle.segments.specs.Tables.{Tables, all_below, steps_of, known_at, segments_hold, Holds}
use Rattle.finding.specs.Finding.{Rising}
use Rattle.segments.specs.laws.Meaning.{all_at, all_of, holds_means, holds_where}
use Rattle.finding.specs.laws.Rising.{rising}
use Rattle.stepping.specs.Steps.{wrapped, within, same, steps_within, common_same, common_within, same_at, within_at, common_same_at, common_within_at}
use Rattle.letters.specs.Letters.{is_common, common_at}
use Rattle.together.specs.Ends.{ends_within_at, begin, LowEnds}
use Rattle.numbered.specs.laws.All.{equal_where, eqb_sym}

-- ---- numbers of so many bits, and differences

within_says : (k n : ℕ) → within k n ≡ true → n < 2 ^ k
unfolding within
within_says k n h = ltb-true n (2 ^ k) h

within_by : (k n : ℕ) → n < 2 ^ k → within k n ≡ true
unfolding within
within_by k n h = lt-ltb n (2 ^ k) h

-- a difference that is not negative
exact : (a b : ℕ) → b ≤ a → wrapped a b ≡ a - b
unfolding wrapped
exact a b h = rw (le-leb b a h)

-- a difference below s, from a number that s more would not wrap, is not negative
not_wrapped : (a b d s : ℕ) → d ≡ wrapped a b → d < s → b + s ≤ 2 ^ 32 → b ≤ a
unfolding wrapped
not_wrapped a b d s is small room =
    by_test (leb b a)
    (λ t. leb-true b a t)
    (λ t. let e : d ≡ a + 2 ^ 32 - b = rw t at is in absurd (omega arith))

-- ---- one segment

-- the code's one test, of what is left of each step where the letter does not advance the other side, is `steps_of`
masked : (c dg dt : ℕ) → eqb (cond (eqb c letter_i || eqb c letter_n) 0 dg) (cond (eqb c letter_d) 0 dt) ≡ steps_of (kind_of c) dg dt
unfolding kind_of
masked c dg dt =
    by_test (eqb c letter_n)
    (λ e. rw (eqb-true c letter_n e) (eqb_sym 0 dt))
    (λ e.
    by_test (eqb c letter_i)
    (λ u. rw (eqb-true c letter_i u) (eqb_sym 0 dt))
    (λ u.
    by_test (eqb c letter_d)
    (λ v. rw (eqb-true c letter_d v))
    (λ v. rw (e, u, v))))

-- ---- a common letter

common_known : (c : ℕ) → is_common c ≡ true → is_letter c ≡ true
unfolding is_common is_letter
common_known c h = go (eqb c letter_equal) (eqb c letter_d) (eqb c letter_i) (eqb c letter_m) (eqb c letter_n) (eqb c letter_x) h
  where
    go : (e d i m n x : Bool) → (e || m || n || x) ≡ true → (e || d || i || m || n || x) ≡ true
    go true d i m n x h = refl
    go false true i m n x h = refl
    go false false true m n x h = refl
    go false false false m n x h = h

-- it is neither I nor D, so that its own test is the test of all letters
common_alike : (c g₀ g₁ t₀ t₁ : ℕ) → is_common c ≡ true → common_same c g₀ g₁ t₀ t₁ ≡ same c g₀ g₁ t₀ t₁
unfolding is_common same common_same
common_alike c g₀ g₁ t₀ t₁ h =
    by_test (eqb c letter_i)
    (λ e. absurd (false≢true (rw (eqb-true c letter_i e) at h)))
    (λ e.
    by_test (eqb c letter_d)
    (λ u. absurd (false≢true (rw (eqb-true c letter_d u) at h)))
    (λ u. rw (e, u)))

common_lower : (k g₀ g₁ t₀ t₁ : ℕ) → steps_within k g₀ g₁ t₀ t₁ ≡ true → common_within k g₀ g₁ ≡ true
unfolding steps_within common_within
common_lower k g₀ g₁ t₀ t₁ h = (both (within k (wrapped g₁ g₀)) _ h).0

-- its transcript step is the genome's or 0
common_both : (k c g₀ g₁ t₀ t₁ : ℕ) → common_same c g₀ g₁ t₀ t₁ ≡ true → common_within k g₀ g₁ ≡ true → steps_within k g₀ g₁ t₀ t₁ ≡ true
unfolding common_same steps_within common_within
common_both k c g₀ g₁ t₀ t₁ h w =
    let is : cond (eqb c letter_n) 0 (wrapped g₁ g₀) ≡ wrapped t₁ t₀ = eqb-true (cond (eqb c letter_n) 0 (wrapped g₁ g₀)) (wrapped t₁ t₀) h in
    let short = at_most (eqb c letter_n) (wrapped g₁ g₀) in
    both_of w (within_by k (wrapped t₁ t₀) (lt_of_le_of_lt (omega (arith, is, short)) (within_says k (wrapped g₁ g₀) w)))
  where
    at_most : (f : Bool) (n : ℕ) → cond f 0 n ≤ n
    at_most true n = omega arith
    at_most false n = omega arith

-- ---- the entries of one table

module _ (entries : List ℕ) (n : ℕ) (begins : get_or entries 0 0 ≡ 0) where
  abbrev e : ℕ → ℕ
  e i = get_or entries i 0

  -- short steps do not come as far as to wrap
  module _ (few : n ≤ 2048) (short : (i : ℕ) → i < n → wrapped (e (i + 1)) (e i) < 2 ^ 21) where
    short_up : (i : ℕ) → i < n → e i ≤ i * 2 ^ 21 → e i ≤ e (i + 1)
    short_up i l far = not_wrapped (e (i + 1)) (e i) _ (2 ^ 21) refl (short i l) (omega (arith, far, l, few))

    short_far : (i : ℕ) → i ≤ n → e i ≤ i * 2 ^ 21
    short_far zero l = omega (arith, begins)
    short_far (suc i) l =
        let far = short_far i (omega arith) in
        let is = exact (e (i + 1)) (e i) (short_up i l far) in
        let step = short i l in
        let next : e (i + 1) ≤ i * 2 ^ 21 + 2 ^ 21 = omega (arith, far, is, step) in
        let at_next : e (suc i) ≤ i * 2 ^ 21 + 2 ^ 21 = rw add-one at next in
        omega (arith, at_next)

    short_rises : Rising entries n
    short_rises = record { each = λ i l. short_up i l (short_far i (omega arith)) }

  -- low steps between low entries have not wrapped
  module _ (low : (i : ℕ) → i < n → wrapped (e (i + 1)) (e i) < 2 ^ 31) (ends : (i : ℕ) → i < n → e (i + 1) < 2 ^ 31) where
    -- an entry is 0, or the end of a segment before
    entry_low : (i : ℕ) → i ≤ n → e i < 2 ^ 31
    entry_low zero l = omega (arith, begins)
    entry_low (suc i) l = rw add-one at (ends i l)

    low_rises : Rising entries n
    low_rises = record { each = λ i l. let small = entry_low i (omega arith) in not_wrapped (e (i + 1)) (e i) _ (2 ^ 31) refl (low i l) (omega (arith, small)) }

module _ (a : Tables) (n : ℕ) where
  abbrev g : ℕ → ℕ
  g i = get_or a.genome i 0

  abbrev t : ℕ → ℕ
  t i = get_or a.transcript i 0

  abbrev c : ℕ → ℕ
  c i = get_or a.letters i 0

  -- ---- what holds together is seen so

  module _ (h : Holds a n) (g_end : g n < 2 ^ 31) (t_end : t n < 2 ^ 31) where
    g_low : (i : ℕ) → i ≤ n → g i < 2 ^ 31
    g_low i l = let up = rising a.genome n h.genome_rises i n l (omega arith) in omega (arith, up, g_end)

    t_low : (i : ℕ) → i ≤ n → t i < 2 ^ 31
    t_low i l = let up = rising a.transcript n h.transcript_rises i n l (omega arith) in omega (arith, up, t_end)

    same_seen : (i : ℕ) → i < n → same_at a i ≡ true
    unfolding same
    same_seen i l =
        rw (exact (g (i + 1)) (g i) (h.genome_rises.each i l), exact (t (i + 1)) (t i) (h.transcript_rises.each i l))
        (masked (c i) (g (i + 1) - g i) (t (i + 1) - t i) ∙ h.steps i l)

    low_seen : (i : ℕ) → i < n → within_at 31 a i ≡ true
    unfolding steps_within
    low_seen i l =
        let g_next = g_low (i + 1) (omega arith) in
        let t_next = t_low (i + 1) (omega arith) in
        rw (exact (g (i + 1)) (g i) (h.genome_rises.each i l), exact (t (i + 1)) (t i) (h.transcript_rises.each i l))
        (both_of (within_by 31 _ (omega (arith, g_next))) (within_by 31 _ (omega (arith, t_next))))

  -- ---- what is seen so holds together

  within_parts : (k i : ℕ) → within_at k a i ≡ true → (wrapped (g (i + 1)) (g i) < 2 ^ k) × (wrapped (t (i + 1)) (t i) < 2 ^ k)
  unfolding steps_within
  within_parts k i h =
      let (p, q) = both (within k (wrapped (g (i + 1)) (g i))) (within k (wrapped (t (i + 1)) (t i))) h in
      (within_says k (wrapped (g (i + 1)) (g i)) p, within_says k (wrapped (t (i + 1)) (t i)) q)

  module _ (g_begins : g 0 ≡ 0) (t_begins : t 0 ≡ 0) (known : (i : ℕ) → i < n → is_letter (c i) ≡ true) (sames : (i : ℕ) → i < n → same_at a i ≡ true) (g_rises : Rising a.genome n) (t_rises : Rising a.transcript n) where
    held : Holds a n
    unfolding same
    held = record {
      genome_from_0 = g_begins;
      transcript_from_0 = t_begins;
      letters = known;
      genome_rises = g_rises;
      transcript_rises = t_rises;
      steps = λ i l. sym (masked (c i) (g (i + 1) - g i) (t (i + 1) - t i)) ∙ rw (exact (g (i + 1)) (g i) (g_rises.each i l), exact (t (i + 1)) (t i) (t_rises.each i l)) at (sames i l);
    }

  -- ---- the definition, by the passes

  begin_parts : begin a.genome a.transcript ≡ true → (g 0 ≡ 0) × (t 0 ≡ 0)
  unfolding begin
  begin_parts h = let (p, q) = both (eqb (g 0) 0) (eqb (t 0) 0) h in (eqb-true (g 0) 0 p, eqb-true (t 0) 0 q)

  begin_of : g 0 ≡ 0 → t 0 ≡ 0 → begin a.genome a.transcript ≡ true
  unfolding begin
  begin_of p q = both_of (eq-eqb (g 0) 0 p) (eq-eqb (t 0) 0 q)

  -- no end has the highest bit
  abbrev pub low_ends : Bool
  low_ends = all_below (ends_within_at 31 a.genome a.transcript) n

  module _ (few : n ≤ 2048) (ends : LowEnds a.genome a.transcript n) where
    pub decided : (begin a.genome a.transcript && (all_below (known_at a.letters) n && (all_below (same_at a) n && (all_below (within_at 21 a) n || (all_below (within_at 31 a) n && low_ends))))) ≡ segments_hold a n
    decided = equal_where _ _ seen_holds holds_seen
      where
        seen_holds : (begin a.genome a.transcript && (all_below (known_at a.letters) n && (all_below (same_at a) n && (all_below (within_at 21 a) n || (all_below (within_at 31 a) n && low_ends))))) ≡ true → segments_hold a n ≡ true
        seen_holds h =
            let (begins, rest) = both (begin a.genome a.transcript) _ h in
            let (known, steps) = both (all_below (known_at a.letters) n) _ rest in
            let (sames, fine) = both (all_below (same_at a) n) _ steps in
            let (g_begins, t_begins) = begin_parts begins in
            let holds : Rising a.genome n → Rising a.transcript n → segments_hold a n ≡ true = λ g_rises t_rises. holds_where a n (held g_begins t_begins (all_at _ n known) (all_at _ n sames) g_rises t_rises) in
            by_test (all_below (within_at 21 a) n)
            (λ short.
            let each : (i : ℕ) → i < n → (wrapped (g (i + 1)) (g i) < 2 ^ 21) × (wrapped (t (i + 1)) (t i) < 2 ^ 21) = λ i l. within_parts 21 i (all_at (within_at 21 a) n short i l) in
            holds (short_rises a.genome n g_begins few (λ i l. (each i l).0)) (short_rises a.transcript n t_begins few (λ i l. (each i l).1)))
            (λ long.
            let (lows, both_ends) = both (all_below (within_at 31 a) n) low_ends (rw long at fine) in
            let each_end : (i : ℕ) → i < n → (within 31 (g (i + 1)) ≡ true) × (within 31 (t (i + 1)) ≡ true) = λ i l. both (within 31 (g (i + 1))) (within 31 (t (i + 1))) (all_at (ends_within_at 31 a.genome a.transcript) n both_ends i l) in
            let each : (i : ℕ) → i < n → (wrapped (g (i + 1)) (g i) < 2 ^ 31) × (wrapped (t (i + 1)) (t i) < 2 ^ 31) = λ i l. within_parts 31 i (all_at (within_at 31 a) n lows i l) in
            holds
            (low_rises a.genome n g_begins (λ i l. (each i l).0) (λ i l. within_says 31 (g (i + 1)) (each_end i l).0))
            (low_rises a.transcript n t_begins (λ i l. (each i l).1) (λ i l. within_says 31 (t (i + 1)) (each_end i l).1)))

        or_true : (b : Bool) {d : Bool} → d ≡ true → (b || d) ≡ true
        or_true true h = refl
        or_true false h = h

        holds_seen : segments_hold a n ≡ true → (begin a.genome a.transcript && (all_below (known_at a.letters) n && (all_below (same_at a) n && (all_below (within_at 21 a) n || (all_below (within_at 31 a) n && low_ends))))) ≡ true
        holds_seen h =
            let x = holds_means a n h in
            let g_end = ends.genome_low in
            let t_end = ends.transcript_low in
            let low_ends_hold = all_of (ends_within_at 31 a.genome a.transcript) n (λ i l. both_of (within_by 31 (g (i + 1)) (g_low x g_end t_end (i + 1) (omega arith))) (within_by 31 (t (i + 1)) (t_low x g_end t_end (i + 1) (omega arith)))) in
            both_of (begin_of x.genome_from_0 x.transcript_from_0)
            (both_of (all_of _ n x.letters)
            (both_of (all_of _ n (same_seen x g_end t_end))
            (or_true (all_below (within_at 21 a) n) (both_of (all_of _ n (low_seen x g_end t_end)) low_ends_hold))))

  -- ---- common letters

  module _ (commons : all_below (common_at a.letters) n ≡ true) where
    common : (i : ℕ) → i < n → is_common (c i) ≡ true
    common i l = all_at (common_at a.letters) n commons i l

    known : all_below (known_at a.letters) n ≡ true
    known = all_of _ n (λ i l. common_known (c i) (common i l))

    alike : (i : ℕ) → i < n → common_same_at a i ≡ same_at a i
    alike i l = common_alike (c i) (g i) (g (i + 1)) (t i) (t (i + 1)) (common i l)

    -- they are known, and their own test of the steps is the test of all letters
    pub common_sames : all_below (common_same_at a) n ≡ (all_below (known_at a.letters) n && all_below (same_at a) n)
    common_sames =
        rw known
        (equal_where _ _
        (λ h. all_of (same_at a) n (λ i l. sym (alike i l) ∙ all_at (common_same_at a) n h i l))
        (λ h. all_of (common_same_at a) n (λ i l. alike i l ∙ all_at (same_at a) n h i l)))

    -- where steps are the same, the genome's have as many bits as both
    pub common_withins : (k : ℕ) → all_below (common_same_at a) n ≡ true → all_below (common_within_at k a) n ≡ all_below (within_at k a) n
    common_withins k same_all =
        equal_where _ _
        (λ h. all_of (within_at k a) n (λ i l. common_both k (c i) (g i) (g (i + 1)) (t i) (t (i + 1)) (all_at (common_same_at a) n same_all i l) (all_at (common_within_at k a) n h i l)))
        (λ h. all_of (common_within_at k a) n (λ i l. common_lower k (g i) (g (i + 1)) (t i) (t (i + 1)) (all_at (within_at k a) n h i l)))
