-- A strict answer is also the lenient answer: the steps of an answer. Assumes nothing.
use Rattle.refusals.specs.declared.Refusal.{Refusal}
use Rattle.std.specs.Prelude.{Bool, true, false, if◌then◌else◌}
use Rattle.refusals.specs.Outcome.{Outcome, Err}
use Rattle.refusals.specs.Refusing.{Kept}
use Rattle.refusals.specs.laws.Keeping.{kept_same, kept_through, kept_both, kept_then}
use Rattle.positions.specs.Positions.{Interval, each}
use Rattle.positions.specs.Answers.{Mark, Answer, ends, after, chain, fitting}

-- a test that strict mode alone makes: a refusal where it fails, and where it passes
pub kept_if : {A : Type 0} (test : Bool) (k : Refusal) (o : Outcome A) → Kept (if test then o else Err k) o
kept_if true k o = kept_same o
kept_if false k o = record { kept = λ h. absurd h }

pub kept_unless : {A : Type 0} (test : Bool) (k : Refusal) (o : Outcome A) → Kept (if test then Err k else o) o
kept_unless true k o = record { kept = λ h. absurd h }
kept_unless false k o = kept_same o

-- a test that both modes make
pub kept_under : {A : Type 0} (test : Bool) (k : Refusal) (o q : Outcome A) → Kept o q → Kept (if test then o else Err k) (if test then q else Err k)
kept_under true k o q h = h
kept_under false k o q h = kept_same (Err k)

pub kept_fitting : {P : Type 0} (fit : P → Bool) (a b : Answer P) → Kept a b → Kept (fitting fit a) (fitting fit b)
kept_fitting fit a b k = kept_then a b _ _ k (λ x. kept_same _)

pub kept_ends : {P : Type 0} (m : Mark) (a b c d : Outcome P) → Kept a c → Kept b d → Kept (ends m a b) (ends m c d)
kept_ends m a b c d k l = kept_both _ a c b d k l

pub kept_chain : {P Q R : Type 0} (asks : P → Q) (a b : Answer P) (f g : Interval Q → Answer R) → Kept a b → ((i : Interval Q) → Kept (f i) (g i)) → Kept (chain asks a f) (chain asks b g)
kept_chain asks a b f g k l = kept_then a b _ _ k (λ x. kept_through (after x.mark) _ _ (l (each asks x.interval)))
