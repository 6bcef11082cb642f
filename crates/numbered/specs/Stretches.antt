-- A stretch of segments. Assumes nothing.
use Rattle.std.specs.Prelude.{ℕ, Bool, ◌||◌, nat_lt}

-- a test from the number `first` on: those before it pass
abbrev pub from : ℕ → (ℕ → Bool) → ℕ → Bool
from first test i = nat_lt i first || test i
