-- Which refusals a chain of steps can give: those of its steps. Assumes nothing.
use Rattle.std.specs.Prelude.{List, ◌≡◌, refl}
use Rattle.refusals.specs.declared.Refusal.{Refusal}
use Rattle.refusals.specs.Outcome.{Outcome, Ok, Err, and_then, through, both}
use Rattle.refusals.specs.Refusing.{Only}

module _ (ks : List Refusal) where
  pub only_through : {A B : Type 0} (f : A → B) (o : Outcome A) → Only ks o → Only ks (through f o)
  only_through f (Ok a) h = record { only = tt }
  only_through f (Err k) h = record { only = h.only }

  pub only_both : {A B C : Type 0} (f : A → B → C) (o : Outcome A) (q : Outcome B) → Only ks o → Only ks q → Only ks (both f o q)
  only_both f (Ok a) q h n = only_through (f a) q n
  only_both f (Err k) q h n = record { only = h.only }

  -- the second step is taken from an answer of the first
  pub only_then : {A B : Type 0} (o : Outcome A) (f : A → Outcome B) → Only ks o → ((a : A) → o ≡ Ok a → Only ks (f a)) → Only ks (and_then o f)
  only_then (Ok a) f h n = n a refl
  only_then (Err k) f h n = record { only = h.only }
