-- Laws of a chain of refusals. Assumes nothing.
use Rattle.std.specs.Prelude.{◌≡◌, refl}
use Rattle.refusals.specs.declared.Refusal.{Refusal}
use Rattle.refusals.specs.Outcome.{Ok, Err, Test, no_fault}
use Rattle.records.specs.Faults.{◌or_else◌}

-- a refusal counts
pub refuses : {x : Test} {k : Refusal} (l : Test) → Err k ≡ x → Err k ≡ x or_else l
refuses l e = rw (← e) refl

-- without one the next test does
pub passes : {x r l : Test} → no_fault ≡ x → r ≡ l → r ≡ x or_else l
passes e q = rw (← e) q

-- where a chain does not refuse, no test of it does
pub clear : (k l : Test) → k or_else l ≡ no_fault → (k ≡ no_fault) × (l ≡ no_fault)
clear (Ok tt) l h = (refl, h)
clear (Err k) l h = cc
