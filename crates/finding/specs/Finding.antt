-- Which segment of a table a place lies in. A table is the list of its entries: segment i begins at entry i and ends at entry i + 1. A place is a whole number, zero-based. Assumes nothing.
use Rattle.std.specs.Prelude.{ℕ, zero, suc, ◌+◌, ◌-◌, ◌≤◌, ◌<◌, Bool, List, ℤ, pos, get_or, if◌then◌else◌}
use Rattle.std.specs.Int.Signed.{lt_z}

-- of the first n + 1 entries none is below the one before it
pub record Rising (entries : List ℕ) (n : ℕ) : Type 0 where
  pub each : (i : ℕ) → i < n → get_or entries i 0 ≤ get_or entries (i + 1) 0

-- the first number below n at which f is true, or else n
unfoldable pub first_below : (ℕ → Bool) → ℕ → ℕ
first_below f zero = 0
first_below f (suc n) = if f 0 then 0 else suc (first_below (λ (i : ℕ). f (suc i)) n)

-- the end of segment i, the next entry of the table, is above p
abbrev pub ends_above : List ℕ → ℤ → ℕ → Bool
ends_above from p i = lt_z p (pos (get_or from (i + 1) 0))

-- the number of the segment of the place p: the first of n segments whose end is above p, or else the last
unfoldable pub index_of : List ℕ → ℕ → ℤ → ℕ
index_of from n p = first_below (ends_above from p) (n - 1)
