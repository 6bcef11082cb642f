-- An answer and its parts: 17 of an interval is 17 of its ends, the first one's first; an interval that is answered has both its ends answered, and they fit; and its mark. Assumes nothing.
use Rattle.std.specs.Prelude.{ℕ, ◌≡◌, refl, Bool, true, false, ◌&&◌, if◌then◌else◌}
use Rattle.std.proofs.Common.{ap, subst}
use Rattle.refusals.specs.declared.Refusal.TheVariants.{TooWide}
use Rattle.refusals.specs.Outcome.{Outcome, Ok, Err, through}
use Rattle.refusals.specs.laws.Outcomes.{clash, same, through_tells, then_tells}
use Rattle.whole.specs.laws.Whole.{by_test, both}
use Rattle.positions.specs.Positions.{Interval, each}
use Rattle.positions.specs.Answers.{Mark, certain, uncertain, unmarked, mark_of, Marked, Answer, ends, in_a_row, after, chain, if_fits, fitting, Fitted}

module _ {P : Type 0} where
  abbrev joined : Mark → P → P → Marked P
  joined m a b = record { mark = m; interval = record { from = a; to = b } }

  pub ends_fit : (fit : P → Bool) (m : Mark) (a b : P) → fitting fit (Ok (joined m a b)) ≡ ends m (if_fits fit a) (if_fits fit b)
  ends_fit fit m a b = go (fit a) (fit b)
    where
      go : (s t : Bool) → (if s && t then Ok (joined m a b) else Err TooWide) ≡ ends m (if s then Ok a else Err TooWide) (if t then Ok b else Err TooWide)
      go true true = refl
      go true false = refl
      go false t = refl

  -- an end that passed 17 is the end that was asked to fit
  pub end_fits : (fit : P → Bool) (a b : P) → if_fits fit a ≡ Ok b → a ≡ b
  end_fits fit a b = by_test (fit a) (λ t. rw t (λ h. same h)) (λ t. rw t (λ h. absurd (clash h)))

  -- an interval that bears no mark, after a step that bears one
  pub ends_after : (sure : Bool) (exons : Interval ℕ) (a b : Outcome P) → through (after (mark_of sure exons)) (ends unmarked a b) ≡ ends (mark_of sure exons) a b
  ends_after true exons (Ok a) (Ok b) = refl
  ends_after false exons (Ok a) (Ok b) = refl
  ends_after sure exons (Ok a) (Err k) = refl
  ends_after sure exons (Err k) b = refl

  -- an interval that is answered has this mark, and both its ends are answered
  pub ends_answered : (m : Mark) (a b : Outcome P) (i : Marked P) → ends m a b ≡ Ok i → (m ≡ i.mark) × (a ≡ Ok i.interval.from) × (b ≡ Ok i.interval.to)
  ends_answered m (Ok a) (Ok b) i e =
      let is : joined m a b ≡ i = same e in
      (ap (λ (j : Marked P). j.mark) is, ap (λ (j : Marked P). Ok j.interval.from) is, ap (λ (j : Marked P). Ok j.interval.to) is)
  ends_answered m (Ok a) (Err k) i e = absurd (clash e)
  ends_answered m (Err k) b i e = absurd (clash e)

  -- an answer that passed 17 is the answer that was asked to fit
  pub fitting_is : (fit : P → Bool) (a : Answer P) (i : Marked P) → fitting fit a ≡ Ok i → a ≡ Ok i
  fitting_is fit (Ok j) i e = go (fit j.interval.from && fit j.interval.to) e
    where
      go : (t : Bool) → ◌≡◌ {A = Answer P} (if t then Ok j else Err TooWide) (Ok i) → ◌≡◌ {A = Answer P} (Ok j) (Ok i)
      go true h = h
      go false h = absurd (clash h)
  fitting_is fit (Err k) i e = absurd (clash e)

  -- what passed 17 fits
  pub fits_told : (fit : P → Bool) (a b : P) → if_fits fit a ≡ Ok b → fit b ≡ true
  fits_told fit a b h = by_test (fit a) (λ e. subst (λ (x : P). fit x ≡ true) (same (rw e at h)) e) (λ e. absurd (clash (rw e at h)))

pub fitting_fits : {P : Type 0} (fit : P → Bool) (a : Answer P) (i : Marked P) → fitting fit a ≡ Ok i → Fitted fit i.interval
fitting_fits {P} fit a =
    then_tells a _ (λ (i : Marked P). Fitted fit i.interval)
    (λ m i was h.
    let (from, to) = both (fit i.interval.from) (fit i.interval.to) (fits_told (λ (x : Marked P). fit x.interval.from && fit x.interval.to) m i h) in
    record { from = from; to = to })

-- a step that bears no mark leaves that of the step before it
pub row_plain : (m : Mark) → in_a_row m unmarked ≡ m
row_plain (certain exons) = refl
row_plain (uncertain exons) = refl
row_plain unmarked = refl

-- a chain that answers gives the second step's interval with the mark of both: what is so of that is so of its answer
pub chain_tells : {P Q R : Type 0} (asks : P → Q) (first : Answer P) (second : Interval Q → Answer R) (So : Marked R → Type 0)
    → ((a : Marked P) (b : Marked R) → first ≡ Ok a → second (each asks a.interval) ≡ Ok b → So (after a.mark b))
    → (c : Marked R) → chain asks first second ≡ Ok c → So c
chain_tells asks first second So h =
    then_tells first _ So (λ a c f s. through_tells (after a.mark) (second (each asks a.interval)) So (λ b t. h a b f t) c s)

-- and of its mark
pub chain_mark : {P Q R : Type 0} (asks : P → Q) (first : Answer P) (second : Interval Q → Answer R) (So : Mark → Type 0)
    → ((a : Marked P) (b : Marked R) → first ≡ Ok a → second (each asks a.interval) ≡ Ok b → So (in_a_row a.mark b.mark))
    → (c : Marked R) → chain asks first second ≡ Ok c → So c.mark
chain_mark {R = R} asks first second So h = chain_tells asks first second (λ (c : Marked R). So c.mark) h
