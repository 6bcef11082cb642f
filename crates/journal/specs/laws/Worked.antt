-- Worked examples, which compute: an entry byte by byte, each reason for 35, and logs.
use Rattle.std.specs.Prelude.{◌≡◌, refl, Bool, true, ◌&&◌, not, List, [], ◌∷◌, ◌++◌, ℕ, ℤ, pos, negsuc, replicate}
use Rattle.refusals.specs.Numbers.{number}
use Rattle.refusals.specs.declared.Refusal.TheVariants.{Outside, NOutside, MissingEnd, NoRoom, NoLog}
use Rattle.refusals.specs.Outcome.{Ok, Err}
use Rattle.fields.specs.Fields.{le16, le32}
use Rattle.layout.specs.Layout.{nowhere, refusal}
use Rattle.taking.specs.Questions.{map_g_to_n, map_n_to_c, map_c_to_g}
use Rattle.taking.specs.declared.question.Question.{Question}
use Rattle.layout.specs.declared.lay.Position.{Position}
use Rattle.layout.specs.declared.lay.Answer.{Answer}
use Rattle.entries.specs.Entries.{four_bytes, four_numbers, question_bytes, answer_bytes, entry_bytes, question_at, answer_at, entry_at}
use Rattle.canonical.specs.Canonical.{end_holdable, holdable, refusals_of, tag_of_kind, exon_of_kind, end_sayable, is_nowhere, sayable, canonical}
use Rattle.journal.specs.Logs.{entries_bytes, log_bytes, is_marked, is_headed, entries_from, all_canonical, read_log, appending}
use Rattle.entries.specs.declared.Entry.{Entry}

-- the numbers of a question, an end of an answer and an answer in their order
abbrev asks : ℕ → ℕ → ℕ → ℕ → ℤ → ℤ → ℤ → ℤ → Question
asks kind strict a b start o end u = record {
  kind = kind;
  strict = strict;
  start_marks = a;
  end_marks = b;
  start = start;
  start_offset = o;
  end = end;
  end_offset = u;
}

abbrev at : ℤ → ℤ → ℕ → ℕ → Position
at base offset star exon = record { base = base; offset = offset; star = star; exon = exon }

abbrev says : ℕ → ℕ → Position → Position → Answer
says tag number start end = record { number = number; mark = tag; start = start; end = end }

infix 20 ◌gave◌
abbrev ◌gave◌ : Question → Answer → Entry
q gave a = record { question = q; answer = a }

-- c.7+4 to c.*1, certainly g.24 to g.30, exons 1 and 2
abbrev c : Question
c = asks map_c_to_g 1 0 1 (pos 7) (pos 4) (pos 1) (pos 0)

abbrev on_g : Answer
on_g = says 1 0 (at (pos 24) (pos 0) 0 1) (at (pos 30) (pos 0) 0 2)

-- g.24 with no end: 19
abbrev g : Question
g = asks map_g_to_n 1 0 2 (pos 24) (pos 0) (pos 0) (pos 0)

-- n.-1 to n.3, unmarked c.-8 to c.*2
abbrev n : Question
n = asks map_n_to_c 1 0 0 (negsuc 0) (pos 0) (pos 3) (pos 0)

abbrev on_c : Answer
on_c = says 3 0 (at (negsuc 7) (pos 0) 0 0) (at (pos 2) (pos 0) 1 0)

text : entry_bytes (n gave on_c)
    ≡ 2 ∷ 1 ∷ 0 ∷ 0 ∷ 255 ∷ 255 ∷ 255 ∷ 255 ∷ 0 ∷ 0 ∷ 0 ∷ 0 ∷ 3 ∷ 0 ∷ 0 ∷ 0 ∷ 0 ∷ 0 ∷ 0 ∷ 0 ∷ 3 ∷ 0 ∷ 0 ∷ 1 ∷ 248 ∷ 255 ∷ 255 ∷ 255 ∷ 0 ∷ 0 ∷ 0 ∷ 0 ∷ 2 ∷ 0 ∷ 0 ∷ 0 ∷ 0 ∷ 0 ∷ 0 ∷ 0 ∷ 0 ∷ 0 ∷ 0 ∷ 0 ∷ []
unfolding entry_bytes question_bytes answer_bytes four_bytes four_numbers
text = refl

taken : all_canonical ((c gave on_g) ∷ (g gave refusal (number MissingEnd)) ∷ (n gave on_c) ∷ []) ≡ true
unfolding all_canonical canonical holdable end_holdable sayable refusals_of is_nowhere tag_of_kind end_sayable exon_of_kind
taken = refl

-- ---- 35, reason by reason

abbrev wrong : List Entry
wrong =
    -- a kind above 5
    (asks 6 1 0 0 (pos 7) (pos 0) (pos 9) (pos 0) gave on_g)
    -- strict above 1
    ∷ (asks map_c_to_g 2 0 0 (pos 7) (pos 0) (pos 9) (pos 0) gave on_g)
    -- marks of no such value
    ∷ (asks map_c_to_g 1 4 0 (pos 7) (pos 0) (pos 9) (pos 0) gave on_g)
    -- a star outside c.
    ∷ (asks map_n_to_c 1 1 0 (pos 7) (pos 0) (pos 9) (pos 0) gave on_c)
    ∷ (asks map_g_to_n 1 0 1 (pos 7) (pos 0) (pos 9) (pos 0) gave refusal (number Outside))
    -- a missing mark outside g.
    ∷ (asks map_c_to_g 1 2 0 (pos 0) (pos 0) (pos 9) (pos 0) gave on_g)
    ∷ (asks map_n_to_c 1 0 2 (pos 7) (pos 0) (pos 0) (pos 0) gave on_c)
    -- an offset on g.
    ∷ (asks map_g_to_n 1 0 0 (pos 7) (pos 1) (pos 9) (pos 0) gave refusal (number Outside))
    ∷ (c gave says 1 0 (at (pos 24) (pos 0) 0 1) (at (pos 30) (pos 1) 0 2))
    -- a number under a missing mark
    ∷ (asks map_g_to_n 1 0 2 (pos 7) (pos 0) (pos 9) (pos 0) gave refusal (number MissingEnd))
    -- an answer's star of no such value, and one outside c.
    ∷ (n gave says 3 0 (at (pos 1) (pos 0) 2 0) (at (pos 2) (pos 0) 0 0))
    ∷ (c gave says 1 0 (at (pos 24) (pos 0) 0 1) (at (pos 30) (pos 0) 1 2))
    -- a field that the kind or the tag does not use: an exon where there is no g., a refusal beside an answer, a position beside a refusal
    ∷ (n gave says 3 0 (at (pos 1) (pos 0) 0 1) (at (pos 2) (pos 0) 0 0))
    ∷ (c gave says 1 (number Outside) (at (pos 24) (pos 0) 0 1) (at (pos 30) (pos 0) 0 2))
    ∷ (g gave says 0 (number MissingEnd) (at (pos 1) (pos 0) 0 0) nowhere)
    ∷ (g gave says 0 (number MissingEnd) nowhere (at (pos 0) (pos 0) 0 1))
    -- a tag above 3, and one not of the kind
    ∷ (c gave says 4 0 (at (pos 24) (pos 0) 0 1) (at (pos 30) (pos 0) 0 2))
    ∷ (c gave says 3 0 (at (pos 24) (pos 0) 0 1) (at (pos 30) (pos 0) 0 2))
    ∷ (n gave says 1 0 (at (pos 1) (pos 0) 0 0) (at (pos 2) (pos 0) 0 0))
    -- exon 0 in an answer from g. or to g.
    ∷ (c gave says 1 0 (at (pos 24) (pos 0) 0 1) (at (pos 30) (pos 0) 0 0))
    -- a refusal that the kind cannot give, and none
    ∷ (g gave refusal (number NOutside))
    ∷ (g gave refusal 0)
    ∷ []

abbrev none : List Entry → Bool
none [] = true
none (e ∷ es) = not (canonical e) && none es

refused_each : none wrong ≡ true
unfolding canonical holdable end_holdable sayable refusals_of is_nowhere tag_of_kind end_sayable exon_of_kind
refused_each = refl

-- ---- logs

no_entry : read_log (81 ∷ 76 ∷ 71 ∷ 1 ∷ 0 ∷ []) ≡ Ok []
unfolding read_log is_headed is_marked le16 entries_from all_canonical
no_entry = refl

another_mark : read_log (81 ∷ 76 ∷ 72 ∷ 1 ∷ 0 ∷ []) ≡ Err NoLog
unfolding read_log is_headed is_marked le16
another_mark = refl

version_2 : read_log (81 ∷ 76 ∷ 71 ∷ 2 ∷ 0 ∷ []) ≡ Err NoLog
unfolding read_log is_headed is_marked le16
version_2 = refl

byte_behind : read_log (log_bytes ((n gave on_c) ∷ []) ++ 0 ∷ []) ≡ Err NoLog
unfolding read_log is_headed is_marked le16 log_bytes entries_bytes entry_bytes question_bytes answer_bytes four_bytes four_numbers
byte_behind = refl

two_entries : read_log (log_bytes ((n gave on_c) ∷ (c gave on_g) ∷ [])) ≡ Ok ((n gave on_c) ∷ (c gave on_g) ∷ [])
unfolding read_log is_headed is_marked le16 le32 log_bytes entries_bytes entry_bytes question_bytes answer_bytes four_bytes four_numbers entries_from entry_at question_at answer_at all_canonical canonical holdable end_holdable sayable refusals_of is_nowhere tag_of_kind end_sayable exon_of_kind
two_entries = refl

not_a_header : appending (replicate 100 7) 49 (n gave on_c) ≡ Err NoLog
unfolding appending is_headed is_marked le16
not_a_header = refl

past_the_end : appending (replicate 48 7) 49 (n gave on_c) ≡ Err NoLog
unfolding appending
past_the_end = refl

no_room_lem : appending (replicate 48 7) 0 (n gave on_c) ≡ Err NoRoom
unfolding appending entry_bytes question_bytes answer_bytes four_bytes four_numbers
no_room_lem = refl
