-- A flag that a loop gathers: after i turns it is `all_below f i`. Assumes nothing.
use Rattle.std.specs.Prelude.{ℕ, ◌+◌, ◌≤◌, Bool, true, ◌&&◌, ◌≡◌, refl}
use Rattle.std.proofs.Common.{le_antisymm, add-one, ap, ap₂, ◌∙◌}
use Rattle.segments.specs.Tables.{all_below}

-- before the first turn the flag is true
pub all_none : (f : ℕ → Bool) → true ≡ all_below f 0
unfolding all_below
all_none f = refl

-- a turn joins what it found of i to the flag
pub all_more : (f : ℕ → Bool) (i : ℕ) {flag found : Bool} → flag ≡ all_below f i → found ≡ f i → (flag && found) ≡ all_below f (i + 1)
unfolding all_below
all_more f i flag≡ found≡ = rw add-one (ap₂ ◌&&◌ flag≡ found≡)

-- after the last turn i is n
pub all_done : (f : ℕ → Bool) (i n : ℕ) {flag : Bool} → flag ≡ all_below f i → i ≤ n → n ≤ i → flag ≡ all_below f n
all_done f i n flag≡ i≤n n≤i = flag≡ ∙ ap (all_below f) (le_antisymm i≤n n≤i)
