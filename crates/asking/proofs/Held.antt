-- The kind of a question that an entry can hold: it has one, and one that none can hold is 35. Assumes nothing.
use Rattle.std.proofs.Common.{◌≡◌, refl, true, false, leb, ℕ, zero, suc, sym, arith}
use borrow.Author.Tests.{leb-true}
use Rattle.refusals.specs.declared.Refusal.{Refusal}
use Rattle.refusals.specs.declared.Refusal.TheVariants.{NoLog}
use Rattle.refusals.specs.Outcome.{Ok, Err}
use Rattle.refusals.specs.laws.Outcomes.{clash}
use Rattle.whole.specs.laws.Whole.{by_test}
use Rattle.knowing.specs.laws.Known.{same_refusal}
use Rattle.taking.specs.Questions.{map_c_to_g, kind_of}
use Rattle.taking.specs.declared.question.Question.{Question}
use Rattle.taking.specs.declared.question.Kind.{Kind}
use Rattle.canonical.specs.Canonical.{holdable}
use Rattle.asking.specs.Asking.{held_kind}
use Rattle.asking.proofs.laws.Saying.{known_kind}

-- a number that is at most the last kind's is not refused
kind_known : (n : ℕ) → leb n map_c_to_g ≡ true → {k : Refusal} → kind_of n ≡ Err k → ⊥
kind_known zero h e = clash (sym e)
kind_known (suc zero) h e = clash (sym e)
kind_known (suc (suc zero)) h e = clash (sym e)
kind_known (suc (suc (suc zero))) h e = clash (sym e)
kind_known (suc (suc (suc (suc zero)))) h e = clash (sym e)
kind_known (suc (suc (suc (suc (suc zero))))) h e = clash (sym e)
kind_known (suc (suc (suc (suc (suc (suc n)))))) h e = omega (arith, leb-true (suc (suc (suc (suc (suc (suc n)))))) map_c_to_g h)

pub held_means : (q : Question) {kind : Kind} → held_kind q ≡ Ok kind → (holdable q ≡ true) × (kind_of q.kind ≡ Ok kind)
held_means q = by_test (holdable q) (λ e. rw e (λ h. (refl, h))) (λ e. rw e (λ h. absurd (clash h)))

pub unheld_means : (q : Question) {k : Refusal} → held_kind q ≡ Err k → (holdable q ≡ false) × (k ≡ NoLog)
unheld_means q = by_test (holdable q) (λ e. rw e (λ h. absurd (kind_known q.kind (known_kind q e) h))) (λ e. rw e (λ h. (refl, sym (same_refusal h))))
