-- Which refusals the steps of an answer can give. Assumes nothing.
use Rattle.std.specs.Prelude.{Bool, true, false, ◌&&◌, List, ◌≡◌, refl, if◌then◌else◌}
use Rattle.refusals.specs.declared.Refusal.{Refusal}
use Rattle.refusals.specs.declared.Refusal.TheVariants.{TooWide}
use Rattle.refusals.specs.Outcome.{Outcome, Ok, Err}
use Rattle.refusals.specs.Refusing.{one_of, Only}
use Rattle.refusals.specs.laws.Refusing.{only_through, only_both, only_then}
use Rattle.positions.specs.Positions.{Interval, each}
use Rattle.positions.specs.Answers.{Mark, Marked, Answer, ends, after, chain, if_fits, fitting}

module _ (ks : List Refusal) where
  -- a refusal where a test fails, and where one passes
  pub only_if : {A : Type 0} (test : Bool) (k : Refusal) (o : Outcome A) → Only ks o → (test ≡ false → one_of k ks ≡ true) → Only ks (if test then o else Err k)
  only_if true k o h n = h
  only_if false k o h n = record { only = n refl }

  pub only_unless : {A : Type 0} (test : Bool) (k : Refusal) (o : Outcome A) → Only ks o → (test ≡ true → one_of k ks ≡ true) → Only ks (if test then Err k else o)
  only_unless true k o h n = record { only = n refl }
  only_unless false k o h n = h

  pub only_fitted : {A : Type 0} (fit : A → Bool) (a : A) → one_of TooWide ks ≡ true → Only ks (if_fits fit a)
  only_fitted fit a w = only_if (fit a) TooWide (Ok a) (record { only = tt }) (λ e. w)

  pub only_fitting : {P : Type 0} (fit : P → Bool) (a : Answer P) → one_of TooWide ks ≡ true → Only ks a → Only ks (fitting fit a)
  only_fitting {P} fit a w h = only_then ks a _ h (λ x e. only_fitted (λ (m : Marked P). fit m.interval.from && fit m.interval.to) x w)

  pub only_ends : {P : Type 0} (m : Mark) (a b : Outcome P) → Only ks a → Only ks b → Only ks (ends m a b)
  only_ends m a b h n = only_both ks _ a b h n

  pub only_chain : {P Q R : Type 0} (asks : P → Q) (first : Answer P) (second : Interval Q → Answer R) → Only ks first → ((a : Marked P) → first ≡ Ok a → Only ks (second (each asks a.interval))) → Only ks (chain asks first second)
  only_chain asks first second h n = only_then ks first _ h (λ a e. only_through ks (after a.mark) (second (each asks a.interval)) (n a e))
