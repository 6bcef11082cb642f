-- What is answered to a row that puts a question to a lent transcript, and the words that it would record of that. Assumes nothing.
use Rattle.std.specs.Prelude.{ℕ, ◌/◌, ◌%◌, Bool, List, ℤ, ◌==◌, nat_lt, if◌then◌else◌}
use Rattle.holding.specs.Holding.{Lent}
use Rattle.entry.specs.Told.{told_g_to_n, told_g_to_c, told_n_to_g, told_n_to_c, told_c_to_n, told_c_to_g, told_in_bounds, told_coding}
use Rattle.layout.specs.declared.lay.Answer.{Answer}
use Rattle.layout.specs.declared.lay.Said.{Said}
use Rattle.rows.specs.Rows.{call_of, flags_of, recorded_number}
use Rattle.comparing.specs.Words.{answer_words, said_words}

-- bit 0 of the flags: bounds are strict; bits 1 and 2: start and end have a star; bits 3 and 4: which ends are missing
abbrev pub is_strict : List ℕ → Bool
is_strict row = flags_of row % 2 == 1

abbrev pub start_star : List ℕ → Bool
start_star row = flags_of row / 2 % 2 == 1

abbrev pub end_star : List ℕ → Bool
end_star row = flags_of row / 4 % 2 == 1

abbrev pub missing_of : List ℕ → ℕ
missing_of row = flags_of row / 8 % 4

-- ---- by the call's number

unfoldable pub from_g : List ℕ → Lent → Answer
from_g row x =
    if call_of row == 6 then told_g_to_c x (recorded_number row 0) (recorded_number row 2) (missing_of row) (is_strict row)
    else told_g_to_n x (recorded_number row 0) (recorded_number row 2) (missing_of row) (is_strict row)

unfoldable pub from_n : List ℕ → Lent → Answer
from_n row x =
    if call_of row == 8 then told_n_to_c x (recorded_number row 0) (recorded_number row 1) (recorded_number row 2) (recorded_number row 3) (is_strict row)
    else told_n_to_g x (recorded_number row 0) (recorded_number row 1) (recorded_number row 2) (recorded_number row 3) (is_strict row)

abbrev pub map_c_to_n : List ℕ → Lent → Answer
map_c_to_n row x = told_c_to_n x (recorded_number row 0) (recorded_number row 1) (start_star row) (recorded_number row 2) (recorded_number row 3) (end_star row) (is_strict row)

abbrev pub map_c_to_g : List ℕ → Lent → Answer
map_c_to_g row x = told_c_to_g x (recorded_number row 0) (recorded_number row 1) (start_star row) (recorded_number row 2) (recorded_number row 3) (end_star row) (is_strict row)

unfoldable pub from_c : List ℕ → Lent → Answer
from_c row x = if call_of row == 9 then map_c_to_n row x else map_c_to_g row x

unfoldable pub said_to : List ℕ → Lent → Said
said_to row x = if call_of row == 11 then told_in_bounds x (recorded_number row 0) (recorded_number row 2) (missing_of row) else told_coding x

-- 5 and 6 ask in g., 7 and 8 in n., 9 and 10 in c., and the others for a yes or no
unfoldable pub question_words : List ℕ → Lent → List ℤ
question_words row x =
    if nat_lt (call_of row) 7 then answer_words (from_g row x)
    else if nat_lt (call_of row) 9 then answer_words (from_n row x)
    else if nat_lt (call_of row) 11 then answer_words (from_c row x)
    else said_words (said_to row x)
