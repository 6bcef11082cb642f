-- How long lines are.
--     line_length      a number's digits and the newline
--     lines_append     lines one after the other
--     one_line, no_line   of one number, and of none
--     all_lines_next, all_lines_rise, all_lines_none, all_lines_few   the lines of all indices below a number: one index more, none, those of a log
--     line_short       a line of a log's index or total
-- Assumes nothing.
use Rattle.std.specs.Prelude.{◌≡◌, refl, List, [], ◌∷◌, ◌++◌, ℕ, ◌+◌, ◌/◌, ◌≤◌, ◌<◌, length}
use Rattle.std.proofs.Common.{ap, append_assoc, append-nil, arith, length-append}
use Rattle.std.proofs.Math.Decide.{dec_lt}
use Rattle.spelling.specs.Write.{decimal}
use Rattle.spelling.proofs.laws.Decimal.{decimal_one, length_more}
use Rattle.playback.specs.Lines.{line_of, lines_of, most_entries, all_lines, most_replay}

pub line_length : (n : ℕ) → length (line_of n) ≡ length (decimal n) + 1
unfolding line_of
line_length n = length-append (decimal n) (10 ∷ [])

pub lines_append : (ns ms : List ℕ) → lines_of (ns ++ ms) ≡ lines_of ns ++ lines_of ms
unfolding lines_of
lines_append [] ms = refl
lines_append (n ∷ ns) ms = rw (lines_append ns ms, append_assoc)

pub one_line : (n : ℕ) → lines_of (n ∷ []) ≡ line_of n
unfolding lines_of
one_line n = append-nil (line_of n)

pub no_line : lines_of [] ≡ []
unfolding lines_of
no_line = refl

-- ---- by the number of digits

one_digit : (n : ℕ) → n < 10 → length (decimal n) ≡ 1
one_digit n h = ap length (decimal_one n h)

two_digits : (n : ℕ) → 10 ≤ n → n < 100 → length (decimal n) ≡ 2
two_digits n l h = omega (arith, length_more n l, one_digit (n / 10) (omega arith))

three_digits : (n : ℕ) → 100 ≤ n → n < 1000 → length (decimal n) ≡ 3
three_digits n l h = omega (arith, length_more n (omega arith), two_digits (n / 10) (omega arith) (omega arith))

four_digits : (n : ℕ) → 1000 ≤ n → n < 10000 → length (decimal n) ≡ 4
four_digits n l h = omega (arith, length_more n (omega arith), three_digits (n / 10) (omega arith) (omega arith))

pub all_lines_next : (i : ℕ) → i < 10000 → all_lines (i + 1) ≡ all_lines i + length (line_of i)
unfolding all_lines
all_lines_next i h =
    elim (dec_lt i 10) [
      | yes a ↦ omega (arith, line_length i, one_digit i a)
      | no a ↦
          elim (dec_lt i 100) [
            | yes b ↦ omega (arith, line_length i, two_digits i (omega arith) b)
            | no b ↦
                elim (dec_lt i 1000) [
                  | yes c ↦ omega (arith, line_length i, three_digits i (omega arith) c)
                  | no c ↦ omega (arith, line_length i, four_digits i (omega arith) h)
                ]
          ]
    ]

pub all_lines_rise : (i : ℕ) → all_lines i ≤ all_lines (i + 1)
unfolding all_lines
all_lines_rise i = omega arith

pub all_lines_none : all_lines 0 ≡ 0
unfolding all_lines
all_lines_none = refl

-- the lines of a log's entries, and the line of their total
pub all_lines_few : (n : ℕ) → n ≤ most_entries → all_lines n + 5 ≤ most_replay
unfolding all_lines
all_lines_few n h = omega arith

pub line_short : (n : ℕ) → n < 10000 → length (line_of n) ≤ 5
unfolding all_lines
line_short n h = omega (arith, all_lines_next n h)
