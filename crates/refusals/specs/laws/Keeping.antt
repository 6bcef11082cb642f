-- Where each step of a chain keeps its answers in lenient mode, so does the chain. Assumes nothing.
use Rattle.std.specs.Prelude.{refl}
use Rattle.std.proofs.Common.{ap}
use Rattle.refusals.specs.Outcome.{Outcome, Ok, Err, and_then, through, both}
use Rattle.refusals.specs.Refusing.{Kept}

pub kept_same : {A : Type 0} (o : Outcome A) → Kept o o
kept_same o = record { kept = λ h. refl }

pub kept_through : {A B : Type 0} (f : A → B) (o q : Outcome A) → Kept o q → Kept (through f o) (through f q)
kept_through f (Ok a) q k = record { kept = λ h. ap (through f) (k.kept tt) }
kept_through f (Err n) q k = record { kept = λ h. absurd h }

pub kept_both : {A B C : Type 0} (f : A → B → C) (o q : Outcome A) (u v : Outcome B) → Kept o q → Kept u v → Kept (both f o u) (both f q v)
kept_both f (Ok a) q (Ok b) v k l = record { kept = λ h. rw (k.kept tt, l.kept tt) }
kept_both f (Ok a) q (Err n) v k l = record { kept = λ h. absurd h }
kept_both f (Err n) q u v k l = record { kept = λ h. absurd h }

pub kept_then : {A B : Type 0} (o q : Outcome A) (f g : A → Outcome B) → Kept o q → ((a : A) → Kept (f a) (g a)) → Kept (and_then o f) (and_then q g)
kept_then (Ok a) q f g k l = record { kept = λ h. rw (k.kept tt) ((l a).kept h) }
kept_then (Err n) q f g k l = record { kept = λ h. absurd h }
