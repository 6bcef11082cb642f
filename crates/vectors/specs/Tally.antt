-- The counts of replayed rows. Assumes nothing.
use Rattle.std.specs.Prelude.{ℕ, ◌+◌, ◌%◌, ◌^◌, Bool, List, nat_lt, slice_index, slice_set, if◌then◌else◌}
use Rattle.rows.specs.Rows.{call_of, origin_of, recorded_answer}

-- how many counts a tally has
abbrev pub counts : ℕ
counts = 84

-- one more at place i of so many from the first on
unfoldable pub bumped : List ℕ → ℕ → ℕ → ℕ → List ℕ
bumped tally first size i = if nat_lt i size then slice_set tally (first + i) ((slice_index tally (first + i) + 1) % 2 ^ 64) else tally

-- a row: all, by call, by the refusal's number that it expects, by where that comes from
abbrev pub row_counted : List ℕ → List ℕ → List ℕ
row_counted tally row = bumped (bumped (bumped (bumped tally 0 1 0) 2 21 (call_of row)) 44 33 (recorded_answer row 0)) 77 7 (origin_of row)

-- and where it agrees: all, by call
abbrev pub counted : List ℕ → List ℕ → Bool → List ℕ
counted tally row agrees = if agrees then bumped (bumped (row_counted tally row) 1 1 0) 23 21 (call_of row) else row_counted tally row
