-- The lines as they are written from tables, and that they are those of the elements that the tables stand for.
--     lines-are, listing-is    of tables that hold together
-- Assumes nothing.
use Rattle.std.specs.Prelude.{List, [], ◌++◌, ℕ, zero, suc, ◌+◌, get_or}
use Rattle.segments.specs.Tables.{Tables, element_at}
use Rattle.lines.specs.Listing.{line_text}

-- the line of segment i
unfoldable pub line_at : Tables → ℕ → List ℕ
line_at a i = line_text (get_or a.genome i 0) (get_or a.transcript i 0) (element_at a i)

-- the lines of m segments from the segment i on
unfoldable pub lines_from : Tables → ℕ → ℕ → List ℕ
lines_from a i zero = []
lines_from a i (suc m) = line_at a i ++ lines_from a (i + 1) m
