-- An entry of a log: its bytes, the entry that bytes are, and which numbers its bytes have room for. Assumes nothing.
use Rattle.std.specs.Prelude.{ℕ, ◌+◌, ◌<◌, List, ◌++◌, ℤ, get_or}
use Rattle.std.specs.Int.{w32}
use Rattle.std.proofs.Common.{SFits}
use Rattle.fields.specs.Fields.{bytes, bytes16, bytes32, bits32, le16, le32, signed32}
use Rattle.taking.specs.declared.question.Question.{Question}
use Rattle.layout.specs.declared.lay.Position.{Position}
use Rattle.layout.specs.declared.lay.Answer.{Answer}
use Rattle.entries.specs.Layout.{question_size, start_at, start_offset_at, end_at, end_offset_at, strict_at, start_marks_at, end_marks_at, refusal_at, start_star_at, end_star_at, start_exon_at, end_exon_at}
use Rattle.entries.specs.declared.Entry.{Entry}

-- ---- writing

-- four numbers, a byte each
unfoldable pub four_bytes : ℕ → ℕ → ℕ → ℕ → List ℕ
four_bytes a b c d = bytes 1 a ++ bytes 1 b ++ bytes 1 c ++ bytes 1 d

-- four signed numbers, 32 bits each
unfoldable pub four_numbers : ℤ → ℤ → ℤ → ℤ → List ℕ
four_numbers a b c d = bytes32 (bits32 a) ++ bytes32 (bits32 b) ++ bytes32 (bits32 c) ++ bytes32 (bits32 d)

-- kind, strict, the marks of start and end; start, its offset, end, its offset
unfoldable pub question_bytes : Question → List ℕ
question_bytes q = four_bytes q.kind q.strict q.start_marks q.end_marks ++ four_numbers q.start q.start_offset q.end q.end_offset

-- tag, refusal, the stars of start and end; start, its offset, end, its offset; the exons of start and end, 16 bits each
unfoldable pub answer_bytes : Answer → List ℕ
answer_bytes a =
    four_bytes a.mark a.number a.start.star a.end.star
    ++ four_numbers a.start.base a.start.offset a.end.base a.end.offset
    ++ (bytes16 a.start.exon ++ bytes16 a.end.exon)

unfoldable pub entry_bytes : Entry → List ℕ
entry_bytes e = question_bytes e.question ++ answer_bytes e.answer

-- ---- reading

unfoldable pub question_at : List ℕ → ℕ → Question
question_at s at = record {
  kind = get_or s at 0;
  strict = get_or s (at + strict_at) 0;
  start_marks = get_or s (at + start_marks_at) 0;
  end_marks = get_or s (at + end_marks_at) 0;
  start = signed32 (le32 s (at + start_at));
  start_offset = signed32 (le32 s (at + start_offset_at));
  end = signed32 (le32 s (at + end_at));
  end_offset = signed32 (le32 s (at + end_offset_at));
}

unfoldable pub answer_at : List ℕ → ℕ → Answer
answer_at s at = record {
  number = get_or s (at + refusal_at) 0;
  mark = get_or s at 0;
  start = record {
    base = signed32 (le32 s (at + start_at));
    offset = signed32 (le32 s (at + start_offset_at));
    star = get_or s (at + start_star_at) 0;
    exon = le16 s (at + start_exon_at);
  };
  end = record {
    base = signed32 (le32 s (at + end_at));
    offset = signed32 (le32 s (at + end_offset_at));
    star = get_or s (at + end_star_at) 0;
    exon = le16 s (at + end_exon_at);
  };
}

-- the entry at a place
unfoldable pub entry_at : List ℕ → ℕ → Entry
entry_at s at = record { question = question_at s at; answer = answer_at s (at + question_size) }

-- the entry that 44 bytes are
abbrev pub entry_of : List ℕ → Entry
entry_of s = entry_at s 0

-- ---- numbers that the bytes have room for: a byte each, 16 bits for an exon, and 32 signed bits

pub record QuestionFits (q : Question) : Type 0 where
  pub kind_fits : q.kind < 256
  pub strict_fits : q.strict < 256
  pub start_marks_fit : q.start_marks < 256
  pub end_marks_fit : q.end_marks < 256
  pub start_fits : SFits w32 q.start
  pub start_offset_fits : SFits w32 q.start_offset
  pub end_fits : SFits w32 q.end
  pub end_offset_fits : SFits w32 q.end_offset

pub record PositionFits (p : Position) : Type 0 where
  pub base_fits : SFits w32 p.base
  pub offset_fits : SFits w32 p.offset
  pub star_fits : p.star < 256
  pub exon_fits : p.exon < 65536

pub record AnswerFits (a : Answer) : Type 0 where
  pub number_fits : a.number < 256
  pub mark_fits : a.mark < 256
  pub start_fits : PositionFits a.start
  pub end_fits : PositionFits a.end

pub record EntryFits (e : Entry) : Type 0 where
  pub question_fits : QuestionFits e.question
  pub answer_fits : AnswerFits e.answer
