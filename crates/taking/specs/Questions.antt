-- A question of one of the six mappings as one value of numbers: its kinds, its marks, and the interval that it asks of. Assumes nothing.
use Rattle.std.specs.Prelude.{ℕ, ◌/◌, ◌%◌, Bool, ◌||◌, eqb, if◌then◌else◌}
use Rattle.refusals.specs.declared.Refusal.TheVariants.{NoLog}
use Rattle.refusals.specs.Outcome.{Outcome, Ok, Err}
use Rattle.positions.specs.Positions.{Interval, GAsked, NAsked, CAsked}
use Rattle.taking.specs.Taking.{g_end, n_asked, c_asked}
use Rattle.taking.specs.declared.question.Question.{Question}
use Rattle.taking.specs.declared.question.Kind.{Kind}
use Rattle.taking.specs.declared.question.Kind.TheVariants.{GToN, NToG, NToC, CToN, GToC, CToG}

-- ---- the kinds, and what is asked and answered in

abbrev pub map_g_to_n : ℕ
map_g_to_n = 0

abbrev pub map_n_to_g : ℕ
map_n_to_g = 1

abbrev pub map_n_to_c : ℕ
map_n_to_c = 2

abbrev pub map_c_to_n : ℕ
map_c_to_n = 3

abbrev pub map_g_to_c : ℕ
map_g_to_c = 4

abbrev pub map_c_to_g : ℕ
map_c_to_g = 5

-- the kind of a number; 35 where it is of none
abbrev pub kind_of : ℕ → Outcome Kind
kind_of k =
    if eqb k map_g_to_n then Ok GToN
    else if eqb k map_n_to_g then Ok NToG
    else if eqb k map_n_to_c then Ok NToC
    else if eqb k map_c_to_n then Ok CToN
    else if eqb k map_g_to_c then Ok GToC
    else if eqb k map_c_to_g then Ok CToG
    else Err NoLog

abbrev pub from_g : ℕ → Bool
from_g kind = eqb kind map_g_to_n || eqb kind map_g_to_c

abbrev pub from_c : ℕ → Bool
from_c kind = eqb kind map_c_to_n || eqb kind map_c_to_g

abbrev pub to_g : ℕ → Bool
to_g kind = eqb kind map_n_to_g || eqb kind map_c_to_g

abbrev pub to_c : ℕ → Bool
to_c kind = eqb kind map_n_to_c || eqb kind map_g_to_c

-- n. to c. and back: no g.
abbrev pub is_plain : ℕ → Bool
is_plain kind = eqb kind map_n_to_c || eqb kind map_c_to_n

-- ---- an end's marks: bit 0 star, bit 1 missing

abbrev pub is_star : ℕ → Bool
is_star marks = eqb (marks % 2) 1

abbrev pub is_missing : ℕ → Bool
is_missing marks = eqb (marks / 2 % 2) 1

-- ---- what is asked

abbrev pub is_strict : Question → Bool
is_strict q = eqb q.strict 1

unfoldable pub g_of : Question → Interval GAsked
g_of q = record { from = g_end (is_missing q.start_marks) q.start; to = g_end (is_missing q.end_marks) q.end }

unfoldable pub n_of : Question → Interval NAsked
n_of q = n_asked q.start q.start_offset q.end q.end_offset

unfoldable pub c_of : Question → Interval CAsked
c_of q = c_asked q.start q.start_offset (is_star q.start_marks) q.end q.end_offset (is_star q.end_marks)
