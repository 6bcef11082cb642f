-- The sizes that the replay's memory is lent by.
use Rattle.std.specs.Prelude.{ℕ}

-- the most bytes that are lent as a buffer
abbrev pub most_room : ℕ
most_room = 131072

-- the most words of a row, and the most places of a slice that it lends
abbrev pub most_words : ℕ
most_words = 4096

-- the numbers of a head
abbrev pub head_numbers : ℕ
head_numbers = 9
