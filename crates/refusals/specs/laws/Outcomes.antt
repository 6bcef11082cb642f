-- The two laws of an outcome, and what a chain that answers tells of its steps. Assumes nothing.
use Rattle.std.specs.Prelude.{ℕ, ◌≡◌, refl}
use Rattle.std.proofs.Common.{arith, subst}
use Rattle.refusals.specs.declared.Refusal.{Refusal}
use Rattle.refusals.specs.Outcome.{Outcome, Ok, Err, Test, no_fault, and_then, through, unless}

-- a refusal is no answer
pub clash : {A : Type 0} {k : Refusal} {a : A} → ◌≡◌ {A = Outcome A} (Err k) (Ok a) → ⊥
clash e = let z : ◌≡◌ {A = ℕ} 0 1 = cc in omega arith

-- one outcome has one answer
pub same : {A : Type 0} {a b : A} → ◌≡◌ {A = Outcome A} (Ok a) (Ok b) → a ≡ b
same e = cc

-- an answer that was put another way, and that of a second step: what is so of each that they give
pub through_tells : {A B : Type 0} (f : A → B) (o : Outcome A) (So : B → Type 0) → ((a : A) → o ≡ Ok a → So (f a)) → (b : B) → through f o ≡ Ok b → So b
through_tells f (Ok a) So h b e = subst So (same e) (h a refl)
through_tells f (Err k) So h b e = absurd (clash e)

pub then_tells : {A B : Type 0} (o : Outcome A) (f : A → Outcome B) (So : B → Type 0) → ((a : A) (b : B) → o ≡ Ok a → f a ≡ Ok b → So b) → (b : B) → and_then o f ≡ Ok b → So b
then_tells (Ok a) f So h b e = h a b refl e
then_tells (Err k) f So h b e = absurd (clash e)

-- where a chain of tests answers, none of them refuses
pub passed : {A : Type 0} (k : Test) (o : Outcome A) (a : A) → unless k o ≡ Ok a → (k ≡ no_fault) × (o ≡ Ok a)
passed (Ok tt) o a h = (refl, h)
passed (Err k) o a h = absurd (clash h)
