-- How long the listing's texts are at most. A number of 32 bits has at most ten digits. Assumes nothing.
use Rattle.std.specs.Prelude.{ℕ, ◌+◌, ◌*◌, ◌^◌, ◌≤◌, ◌<◌, length}
use Rattle.std.proofs.Common.{arith}
use Rattle.refusals.specs.Numbers.{most_segments}
use Rattle.spelling.proofs.laws.Decimal.{decimal_short}
use Rattle.lines.specs.Listing.{number_text}

-- a space and a number, three of them and the newline, a header, a line
abbrev pub most_number : ℕ
most_number = 11

abbrev pub most_numbers : ℕ
most_numbers = 34

abbrev pub most_header : ℕ
most_header = 39

abbrev pub most_line : ℕ
most_line = 35

-- a listing
abbrev pub most_listing : ℕ
most_listing = most_header + most_line * most_segments

-- the line of a refusal
abbrev pub most_refusal : ℕ
most_refusal = 19

pub number_short : (n : ℕ) → n < 2 ^ 32 → length (number_text n) ≤ most_number
number_short n h = omega (arith, decimal_short n h)
