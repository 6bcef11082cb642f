-- What the judgment is, by the tally that it is told as. Assumes nothing.
use Rattle.refusals.specs.declared.Refusal.{Refusal}
use Rattle.std.specs.Prelude.{ℕ, ◌≡◌, refl}
use Rattle.std.proofs.Common.{arith, ap}
use Rattle.refusals.specs.Outcome.{Outcome, Ok, Err}
use Rattle.judging.specs.Judging.{Made, elements_made, told_of}
use Rattle.reading.specs.Tallies.{sums_of}
use Rattle.reading.specs.declared.Sums.{Sums}

-- sums tell of what was made
pub record Told (j : Outcome Made) (to : Sums) : Type 0 where
  pub made : Made
  pub judged : j ≡ Ok made
  pub sums_are : to ≡ sums_of (elements_made made)

pub told_made : (j : Outcome Made) {to : Sums} → Ok to ≡ told_of j → Told j to
told_made (Err k) e = let z : ◌≡◌ {A = ℕ} 0 1 = cc in absurd (omega arith)
told_made (Ok m) e = record { made = m; judged = refl; sums_are = cc }

-- and a refusal of itself
pub told_refused : (j : Outcome Made) {k : Refusal} → Err k ≡ told_of j → j ≡ Err k
told_refused (Err l) {k} e = let is : l ≡ k = cc in ap Err is
told_refused (Ok m) e = let z : ◌≡◌ {A = ℕ} 0 1 = cc in absurd (omega arith)
