-- Entries that rise from each to the next rise from any to a later one. Assumes nothing.
use Rattle.std.specs.Prelude.{ℕ, zero, suc, ◌+◌, ◌≤◌, ◌<◌, List, ◌≡◌, get_or}
use Rattle.std.proofs.Common.{eq-or-lt_of_le, le_trans, le_refl, add-one, arith, ⊎_elim}
use Rattle.finding.specs.Finding.{Rising}

-- what goes from each of the first n numbers to the next goes from any of them to a later one, where it goes from one to itself and through another
pub onward : (Goes : ℕ → ℕ → Type 0) → ((k : ℕ) → Goes k k) → ((a b c : ℕ) → Goes a b → Goes b c → Goes a c)
    → (number : ℕ → ℕ) (n : ℕ) → ((i : ℕ) → i < n → Goes (number i) (number (i + 1))) → (i j : ℕ) → i ≤ j → j ≤ n → Goes (number i) (number j)
onward Goes stays on number n next i zero i≤j j≤n = let e : i ≡ 0 = omega arith in rw e (stays (number 0))
onward Goes stays on number n next i (suc j) i≤j j≤n =
    ⊎_elim
    (λ (e : i ≡ suc j). rw e (stays (number (suc j))))
    (λ (l : i < suc j). on (number i) (number j) (number (suc j)) (onward Goes stays on number n next i j (omega arith) (omega arith)) (rw add-one at (next j j≤n)))
    (eq-or-lt_of_le i≤j)

-- where no entry is below the one before it, none is below an earlier one
pub rising : (entries : List ℕ) (n : ℕ) → Rising entries n → (i j : ℕ) → i ≤ j → j ≤ n → get_or entries i 0 ≤ get_or entries j 0
rising entries n up = onward ◌≤◌ le_refl (λ a b c. le_trans) (λ (i : ℕ). get_or entries i 0) n up.each
