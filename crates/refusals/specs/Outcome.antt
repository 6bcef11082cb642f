-- "This, or a refusal": how every question of the house comes out. Assumes nothing.
use Rattle.std.specs.Prelude.{ℕ, Result}
pub use Rattle.std.specs.Prelude.{Ok, Err}
use Rattle.refusals.specs.declared.Refusal.{Refusal}
use Rattle.refusals.specs.Numbers.{number}

-- what is asked for, or why there is none
abbrev pub Outcome : Type 0 → Type 0
Outcome A = Result A Refusal

-- there is an answer
abbrev pub Answered : {A : Type 0} → Outcome A → Type 0
Answered (Ok a) = Unit {0}
Answered (Err k) = ⊥

-- the number that is told of it, 0 where there is an answer
abbrev pub number_of : {A : Type 0} → Outcome A → ℕ
number_of (Ok a) = 0
number_of (Err k) = number k

-- a second step takes the answer of the first; the first refusal counts
abbrev pub and_then : {A B : Type 0} → Outcome A → (A → Outcome B) → Outcome B
and_then (Ok a) f = f a
and_then (Err k) f = Err k

-- the answer, put another way
abbrev pub through : {A B : Type 0} → (A → B) → Outcome A → Outcome B
through f (Ok a) = Ok (f a)
through f (Err k) = Err k

-- two answers together: the first refusal counts
abbrev pub both : {A B C : Type 0} → (A → B → C) → Outcome A → Outcome B → Outcome C
both f (Ok a) q = through (f a) q
both f (Err k) q = Err k

-- a test: nothing is against it, or its refusal
abbrev pub Test : Type 0
Test = Outcome (Unit {0})

abbrev pub no_fault : Test
no_fault = Ok tt

-- a test's refusal comes before what follows
abbrev pub unless : {A : Type 0} → Test → Outcome A → Outcome A
unless (Ok t) o = o
unless (Err k) o = Err k
