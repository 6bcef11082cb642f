-- Which refusals a question to what a host lends can give: one row for each question, of either kind of transcript and in either mode. Assumes nothing.
use Rattle.std.specs.Prelude.{ℕ, Bool, Some, None, cond, List, [], ◌∷◌, ◌≡◌, eqb, ℤ, ◌-ℤ◌}
use Rattle.std.proofs.Math.Bool.{true, false}
use Rattle.std.proofs.lemmas.Bool.{false≢true}
use Rattle.std.proofs.Math.Path.{refl}
use Rattle.std.proofs.Math.IntN.{pos}
use Rattle.std.specs.Int.Signed.{le_z, lt_z}
use Rattle.refusals.specs.declared.Refusal.{Refusal}
use Rattle.refusals.specs.declared.Refusal.TheVariants.{NotCoding, Outside, NOutside, COutside, TooWide, NoGenome, MissingEnd, NotTogether}
use Rattle.refusals.specs.Numbers.{number}
use Rattle.refusals.specs.Outcome.{Outcome, Ok, Err}
use Rattle.refusals.specs.Refusing.{one_of, Only}
use Rattle.refusals.specs.laws.Outcomes.{clash}
use Rattle.refusals.specs.laws.Refusing.{only_through, only_then}
use Rattle.whole.specs.laws.Whole.{by_test, order, dif, neither}
use Rattle.numbering.specs.Numbers.{place_of_n}
use Rattle.transcript.specs.Transcript.{Source, Cds, genome_length, transcript_length, length_of, coding_of}
use Rattle.transcript.specs.Transcript.Source.{aligned, length_only}
use Rattle.transcript.specs.Transcript.Cds.{no_cds, cds}
use Rattle.holding.specs.Holding.{Lent, holds, source_of, checked}
use Rattle.positions.specs.Positions.{Interval, each, GAsked, NAsked, CAsked, NPosition, asks_n}
use Rattle.positions.specs.Answers.{Marked}
use Rattle.positions.specs.laws.Refusing.{only_if, only_chain}
use Rattle.coding.specs.Coding.{beyond, map_c_to_n}
use Rattle.coding.specs.laws.Answered.{c_to_n_crossed}
use Rattle.coding.specs.laws.Refusing.{n_to_c_only, c_to_n_only}
use Rattle.spots.specs.Mapping.{inside, turned, lies_in_bounds, map_g_to_n}
use Rattle.places.specs.laws.Refusing.{g_to_n_only, n_to_g_only, n_to_g_inside}
use Rattle.chaining.specs.Given.{given_ends, given}
use Rattle.mapper.specs.Asking.{ask_g_to_n, ask_n_to_g, ask_n_to_c, ask_c_to_n, ask_g_to_c, ask_c_to_g, ask_coding, ask_in_bounds}

-- ---- a number that strict c. to n. gives lies in 1 to the length, so that its place is inside

module _ (len : ℕ) where
  taken_inside : (strict forward : Bool) (n : ℤ) → beyond strict len n ≡ false → inside strict len (turned forward len (place_of_n n)) ≡ true
  unfolding beyond inside turned place_of_n
  taken_inside false forward n h = refl
  taken_inside true true n h =
      let (low, high) = neither (le_z n (pos 0)) (lt_z (pos len) n) h in
      let up : le_z (pos 1) n ≡ true = omega order in
      let above : le_z (pos 0) (n -ℤ pos 1) ≡ true = omega (order, dif n (pos 1)) in
      let below : lt_z (n -ℤ pos 1) (pos len) ≡ true = omega (order, dif n (pos 1)) in
      simp (up, above, below)
  taken_inside true false n h =
      let (low, high) = neither (le_z n (pos 0)) (lt_z (pos len) n) h in
      let up : le_z (pos 1) n ≡ true = omega order in
      let back = pos len -ℤ pos 1 -ℤ (n -ℤ pos 1) in
      let above : le_z (pos 0) back ≡ true = omega (order, dif n (pos 1), dif (pos len) (pos 1), dif (pos len -ℤ pos 1) (n -ℤ pos 1)) in
      let below : lt_z back (pos len) ≡ true = omega (order, dif n (pos 1), dif (pos len) (pos 1), dif (pos len -ℤ pos 1) (n -ℤ pos 1)) in
      simp (up, above, below)

  c_to_n_taken : (strict : Bool) (c : Cds) (i : Interval CAsked) (n : Marked NPosition) → map_c_to_n strict len c i ≡ Ok n → (beyond strict len n.interval.from.base ≡ false) × (beyond strict len n.interval.to.base ≡ false)
  unfolding map_c_to_n
  c_to_n_taken strict no_cds i n h = absurd (clash h)
  c_to_n_taken strict (cds s e) i n h = let (from, to) = c_to_n_crossed strict len s e i n h in (from.taken, to.taken)

-- ---- the questions: 14, 15 and 16 in strict mode alone

module _ (ks : List Refusal) where
  pub given_only : one_of MissingEnd ks ≡ true → (q : Interval GAsked) → Only ks (given q)
  given_only m q = go q.from q.to
    where
      go : (a b : GAsked) → Only ks (given_ends a b)
      go (Some a) (Some b) = record { only = tt }
      go (Some a) None = record { only = m }
      go None b = record { only = m }

  module _ (strict : Bool) (w : one_of TooWide ks ≡ true) where
    ask_g_to_n_lem : (strict ≡ true → one_of Outside ks ≡ true) → one_of NoGenome ks ≡ true → one_of MissingEnd ks ≡ true → (q : Interval GAsked) (x : Source) → Only ks (ask_g_to_n strict q x)
    unfolding ask_g_to_n
    ask_g_to_n_lem o n m q (aligned t) = only_then ks (given q) (map_g_to_n strict t) (given_only m q) (λ i e. g_to_n_only ks strict o w t i)
    ask_g_to_n_lem o n m q (length_only len c) = record { only = n }

    ask_n_to_g_lem : (strict ≡ true → one_of Outside ks ≡ true) → one_of NoGenome ks ≡ true → (q : Interval NAsked) (x : Source) → Only ks (ask_n_to_g strict q x)
    unfolding ask_n_to_g
    ask_n_to_g_lem o n q (aligned t) = n_to_g_only ks strict o w t q
    ask_n_to_g_lem o n q (length_only len c) = record { only = n }

    ask_n_to_c_lem : one_of NotCoding ks ≡ true → (strict ≡ true → one_of NOutside ks ≡ true) → (q : Interval NAsked) (x : Source) → Only ks (ask_n_to_c strict q x)
    unfolding ask_n_to_c
    ask_n_to_c_lem d o q x = n_to_c_only ks strict d o w (length_of x) (coding_of x) q

    ask_c_to_n_lem : one_of NotCoding ks ≡ true → (strict ≡ true → one_of COutside ks ≡ true) → (q : Interval CAsked) (x : Source) → Only ks (ask_c_to_n strict q x)
    unfolding ask_c_to_n
    ask_c_to_n_lem d o q x = c_to_n_only ks strict d o w (length_of x) (coding_of x) q

    pub ask_g_to_c_lem : one_of NotCoding ks ≡ true → (strict ≡ true → one_of Outside ks ≡ true) → (strict ≡ true → one_of NOutside ks ≡ true) → one_of NoGenome ks ≡ true → one_of MissingEnd ks ≡ true → (q : Interval GAsked) (x : Source) → Only ks (ask_g_to_c strict q x)
    unfolding ask_g_to_c
    ask_g_to_c_lem d o u n m q x = only_chain ks asks_n (ask_g_to_n strict q x) (λ (i : Interval NAsked). ask_n_to_c strict i x) (ask_g_to_n_lem o n m q x) (λ a e. ask_n_to_c_lem d u (each asks_n a.interval) x)

    ask_c_to_g_lem : one_of NotCoding ks ≡ true → (strict ≡ true → one_of COutside ks ≡ true) → one_of NoGenome ks ≡ true → (q : Interval CAsked) (x : Source) → Only ks (ask_c_to_g strict q x)
    unfolding ask_c_to_g ask_c_to_n ask_n_to_g
    ask_c_to_g_lem d o n q x = only_chain ks asks_n (ask_c_to_n strict q x) (λ (i : Interval NAsked). ask_n_to_g strict i x) (ask_c_to_n_lem d o q x) (second x)
      where
        second : (y : Source) (a : Marked NPosition) → ask_c_to_n strict q y ≡ Ok a → Only ks (ask_n_to_g strict (each asks_n a.interval) y)
        second (aligned t) a e =
            let len = transcript_length t in
            let (from, to) = c_to_n_taken len strict t.coding q a e in
            n_to_g_inside ks strict w t (each asks_n a.interval) (taken_inside len strict t.forward a.interval.from.base from) (taken_inside len strict t.forward a.interval.to.base to)
        second (length_only len c) a e = record { only = n }

  ask_in_bounds_lem : one_of NoGenome ks ≡ true → one_of MissingEnd ks ≡ true → (q : Interval GAsked) (x : Source) → Only ks (ask_in_bounds q x)
  unfolding ask_in_bounds
  ask_in_bounds_lem n m q (aligned t) = only_through ks (lies_in_bounds t.first (genome_length t)) (given q) (given_only m q)
  ask_in_bounds_lem n m q (length_only len c) = record { only = n }

  -- 23 comes before the question's own
  pub checked_only : {A : Type 0} (x : Lent) (ask : Source → Outcome A) → one_of NotTogether ks ≡ true → ((y : Source) → Only ks (ask y)) → Only ks (checked x ask)
  unfolding checked
  checked_only x ask r o = only_if ks (holds x) NotTogether (ask (source_of x)) (o (source_of x)) (λ e. r)

-- ---- the rows: of each question the refusals that it can give

abbrev pub g_to_n_refusals : List Refusal
g_to_n_refusals = Outside ∷ TooWide ∷ NoGenome ∷ MissingEnd ∷ NotTogether ∷ []

abbrev pub n_to_g_refusals : List Refusal
n_to_g_refusals = Outside ∷ TooWide ∷ NoGenome ∷ NotTogether ∷ []

abbrev pub n_to_c_refusals : List Refusal
n_to_c_refusals = NotCoding ∷ NOutside ∷ TooWide ∷ NotTogether ∷ []

abbrev pub c_to_n_refusals : List Refusal
c_to_n_refusals = NotCoding ∷ COutside ∷ TooWide ∷ NotTogether ∷ []

abbrev pub g_to_c_refusals : List Refusal
g_to_c_refusals = NotCoding ∷ Outside ∷ NOutside ∷ TooWide ∷ NoGenome ∷ MissingEnd ∷ NotTogether ∷ []

-- not 14: what strict c. to n. gives lies in the transcript
abbrev pub c_to_g_refusals : List Refusal
c_to_g_refusals = NotCoding ∷ COutside ∷ TooWide ∷ NoGenome ∷ NotTogether ∷ []

abbrev pub coding_refusals : List Refusal
coding_refusals = NotTogether ∷ []

abbrev pub in_bounds_refusals : List Refusal
in_bounds_refusals = NoGenome ∷ MissingEnd ∷ NotTogether ∷ []

-- what is left of a row in lenient mode: 14, 15 and 16 belong to strict mode
abbrev pub lenient : List Refusal → List Refusal
lenient [] = []
lenient (k ∷ ks) = cond (one_of k (Outside ∷ NOutside ∷ COutside ∷ [])) (lenient ks) (k ∷ lenient ks)

-- a row in strict mode, or in lenient mode
abbrev pub in_mode : Bool → List Refusal → List Refusal
in_mode strict ks = cond strict ks (lenient ks)

-- in either mode the row has them
lenient_in : (k : Refusal) (ks : List Refusal) → one_of k (lenient ks) ≡ true → one_of k ks ≡ true
lenient_in k [] h = h
lenient_in k (x ∷ xs) h = by_test (eqb (number k) (number x)) (λ e. rw e) (λ e. rw e (lenient_in k xs (left e (one_of x (Outside ∷ NOutside ∷ COutside ∷ [])) h)))
  where
    left : eqb (number k) (number x) ≡ false → (dropped : Bool) → one_of k (cond dropped (lenient xs) (x ∷ lenient xs)) ≡ true → one_of k (lenient xs) ≡ true
    left e true h = h
    left e false h = rw e at h

pub in_row : {A : Type 0} (strict : Bool) (ks : List Refusal) (o : Outcome A) → Only (in_mode strict ks) o → Only ks o
in_row true ks o h = h
in_row false ks (Ok a) h = record { only = tt }
in_row false ks (Err k) h = record { only = lenient_in k ks h.only }

-- lenient mode is not strict
not_strict : {X : Type 0} → false ≡ true → X
not_strict e = absurd (false≢true e)

module _ (x : Lent) where
  pub g_to_n_refuses : (strict : Bool) (q : Interval GAsked) → Only (in_mode strict g_to_n_refusals) (checked x (ask_g_to_n strict q))
  g_to_n_refuses true q = checked_only _ x (ask_g_to_n true q) refl (ask_g_to_n_lem _ true refl (λ e. refl) refl refl q)
  g_to_n_refuses false q = checked_only _ x (ask_g_to_n false q) refl (ask_g_to_n_lem _ false refl not_strict refl refl q)

  pub n_to_g_refuses : (strict : Bool) (q : Interval NAsked) → Only (in_mode strict n_to_g_refusals) (checked x (ask_n_to_g strict q))
  n_to_g_refuses true q = checked_only _ x (ask_n_to_g true q) refl (ask_n_to_g_lem _ true refl (λ e. refl) refl q)
  n_to_g_refuses false q = checked_only _ x (ask_n_to_g false q) refl (ask_n_to_g_lem _ false refl not_strict refl q)

  pub n_to_c_refuses : (strict : Bool) (q : Interval NAsked) → Only (in_mode strict n_to_c_refusals) (checked x (ask_n_to_c strict q))
  n_to_c_refuses true q = checked_only _ x (ask_n_to_c true q) refl (ask_n_to_c_lem _ true refl refl (λ e. refl) q)
  n_to_c_refuses false q = checked_only _ x (ask_n_to_c false q) refl (ask_n_to_c_lem _ false refl refl not_strict q)

  pub c_to_n_refuses : (strict : Bool) (q : Interval CAsked) → Only (in_mode strict c_to_n_refusals) (checked x (ask_c_to_n strict q))
  c_to_n_refuses true q = checked_only _ x (ask_c_to_n true q) refl (ask_c_to_n_lem _ true refl refl (λ e. refl) q)
  c_to_n_refuses false q = checked_only _ x (ask_c_to_n false q) refl (ask_c_to_n_lem _ false refl refl not_strict q)

  pub g_to_c_refuses : (strict : Bool) (q : Interval GAsked) → Only (in_mode strict g_to_c_refusals) (checked x (ask_g_to_c strict q))
  g_to_c_refuses true q = checked_only _ x (ask_g_to_c true q) refl (ask_g_to_c_lem _ true refl refl (λ e. refl) (λ e. refl) refl refl q)
  g_to_c_refuses false q = checked_only _ x (ask_g_to_c false q) refl (ask_g_to_c_lem _ false refl refl not_strict not_strict refl refl q)

  pub c_to_g_refuses : (strict : Bool) (q : Interval CAsked) → Only (in_mode strict c_to_g_refusals) (checked x (ask_c_to_g strict q))
  c_to_g_refuses true q = checked_only _ x (ask_c_to_g true q) refl (ask_c_to_g_lem _ true refl refl (λ e. refl) refl q)
  c_to_g_refuses false q = checked_only _ x (ask_c_to_g false q) refl (ask_c_to_g_lem _ false refl refl not_strict refl q)

  pub coding_refuses : Only coding_refusals (checked x ask_coding)
  unfolding ask_coding
  coding_refuses = checked_only _ x ask_coding refl (λ y. record { only = tt })

  pub in_bounds_refuses : (q : Interval GAsked) → Only in_bounds_refusals (checked x (ask_in_bounds q))
  in_bounds_refuses q = checked_only _ x (ask_in_bounds q) refl (ask_in_bounds_lem _ refl refl q)
