-- Lines of numbers, and how long they are at most. Assumes nothing.
use Rattle.std.specs.Prelude.{ℕ, ◌+◌, ◌*◌, ◌-◌, Bool, List, [], ◌∷◌, ◌++◌, if◌then◌else◌}
use Rattle.spelling.specs.Write.{decimal}

-- a number in decimal and the newline
unfoldable pub line_of : ℕ → List ℕ
line_of n = decimal n ++ 10 ∷ []

-- numbers, a line each
unfoldable pub lines_of : List ℕ → List ℕ
lines_of [] = []
lines_of (n ∷ ns) = line_of n ++ lines_of ns

-- an index, where it is listed
abbrev pub index_if : Bool → ℕ → List ℕ
index_if listed i = if listed then i ∷ [] else []

-- a line of a number of 32 bits, which has at most ten digits
abbrev pub most_line : ℕ
most_line = 11

-- the entries of a log of 65,536 bytes
abbrev pub most_entries : ℕ
most_entries = 1489

-- the lines of all indices below n, which is at most 10,000: two bytes each, and one more from 10, from 100 and from 1,000 on
unfoldable pub all_lines : ℕ → ℕ
all_lines n = 2 * n + (n - 10) + (n - 100) + (n - 1000)

-- the longest text of a replay: every entry differs, and the total has four digits
abbrev pub most_replay : ℕ
most_replay = 6340
