-- The size that a file's memory is lent by.
use Rattle.std.specs.Prelude.{ℕ}

-- the most bytes of a file of recorded answers
abbrev pub most_file : ℕ
most_file = 1179648
