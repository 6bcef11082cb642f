-- What is said of refusals: which ones a question can give, and that strict mode only refuses more. Assumes nothing.
use Rattle.std.specs.Prelude.{Bool, true, false, ◌||◌, List, [], ◌∷◌, ◌≡◌, eqb}
use Rattle.refusals.specs.declared.Refusal.{Refusal}
use Rattle.refusals.specs.Numbers.{number}
use Rattle.refusals.specs.Outcome.{Outcome, Ok, Err, Answered}

-- k is one of ks
abbrev pub one_of : Refusal → List Refusal → Bool
one_of k [] = false
one_of k (x ∷ xs) = eqb (number k) (number x) || one_of k xs

abbrev pub Among : {A : Type 0} → List Refusal → Outcome A → Type 0
Among ks (Ok a) = Unit {0}
Among ks (Err k) = one_of k ks ≡ true

-- an outcome, where it is a refusal, is one of ks
pub record Only {A : Type 0} (ks : List Refusal) (o : Outcome A) : Type 0 where
  pub only : Among ks o

-- what the strict question answers, the lenient one answers
pub record Kept {A : Type 0} (strict lenient : Outcome A) : Type 0 where
  pub kept : Answered strict → lenient ≡ strict
