-- The layout of an entry, named once: how many bytes it has, and where its numbers stand. The code's names for them are those of src/.
use Rattle.std.specs.Prelude.{ℕ}

-- the bytes of an entry: a question's, and behind them an answer's
abbrev pub entry_size : ℕ
entry_size = 44

abbrev pub question_size : ℕ
question_size = 20

abbrev pub answer_size : ℕ
answer_size = 24

-- ---- counted from the first byte of a question or an answer

-- of either the four signed numbers of its positions, 32 bits each
abbrev pub start_at : ℕ
start_at = 4

abbrev pub start_offset_at : ℕ
start_offset_at = 8

abbrev pub end_at : ℕ
end_at = 12

abbrev pub end_offset_at : ℕ
end_offset_at = 16

-- of a question a byte each, behind the kind
abbrev pub strict_at : ℕ
strict_at = 1

abbrev pub start_marks_at : ℕ
start_marks_at = 2

abbrev pub end_marks_at : ℕ
end_marks_at = 3

-- of an answer a byte each, behind the tag
abbrev pub refusal_at : ℕ
refusal_at = 1

abbrev pub start_star_at : ℕ
start_star_at = 2

abbrev pub end_star_at : ℕ
end_star_at = 3

-- the exons, 16 bits each
abbrev pub start_exon_at : ℕ
start_exon_at = 20

abbrev pub end_exon_at : ℕ
end_exon_at = 22
