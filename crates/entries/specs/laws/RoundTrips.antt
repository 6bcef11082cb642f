-- An entry there and back.
--     entry_length         it has 44 bytes
--     entry_back           an entry's bytes, at a place, read as the entry
--     bytes_back           the bytes of the entry at a place are those that stand there
--     entry_fits           what is read fits
--     of_bytes, bytes_of   the same of 44 bytes alone
--     one_entry            two entries with the same bytes are one
-- Assumes nothing.
use Rattle.std.specs.Prelude.{◌≡◌, refl, ℕ, ◌+◌, ◌%◌, ◌<◌, ◌≤◌, ℤ, length, get_or, take, drop}
use Rattle.std.proofs.Common.{sym, ◌∙◌, add-zero, arith, drop-drop, get_or-drop, take_all, SFits}
use Rattle.std.proofs.Math.Path.{ap}
use mathlib.Core.List.{List, [], ◌++◌, append-nil}
use Rattle.std.specs.Int.{w32}
use Rattle.fields.specs.Fields.{little, le16, le32, bytes16, bytes32, signed32, bits32}
use Rattle.fields.specs.laws.RoundTrips.{Bytes, little_bytes, signed_back, signed_fits, byte_laid, bytes16_le, field_laid, le16_below, le32_below, beside}
use Rattle.taking.specs.declared.question.Question.{Question}
use Rattle.layout.specs.declared.lay.Answer.{Answer}
use Rattle.entries.specs.Layout.{entry_size, question_size, answer_size, start_at, start_offset_at, end_at, end_offset_at, strict_at, start_marks_at, end_marks_at, refusal_at, start_star_at, end_star_at, start_exon_at, end_exon_at}
use Rattle.entries.specs.Entries.{four_bytes, four_numbers, question_bytes, answer_bytes, entry_bytes, question_at, answer_at, entry_at, entry_of, QuestionFits, AnswerFits, EntryFits}
use Rattle.entries.specs.declared.Entry.{Entry}

pub entry_length : (e : Entry) → length (entry_bytes e) ≡ entry_size
unfolding entry_bytes question_bytes answer_bytes four_bytes four_numbers
entry_length e = refl

-- ---- what was written

-- a number of a text that stands at a place, k bytes on
module _ (s : List ℕ) (at : ℕ) (text : List ℕ) (stands : drop at s ≡ text) where
  on : (k : ℕ) → drop (at + k) s ≡ drop k text
  on k = sym (drop-drop k at s) ∙ ap (drop k) stands

  byte_back : (k n : ℕ) → n < 256 → get_or text k 0 ≡ n % 256 → get_or s (at + k) 0 ≡ n
  byte_back k n f e =
      let same : n % 256 ≡ n = omega arith in
      sym (get_or-drop at s k 0) ∙ ap (λ (l : List ℕ). get_or l k 0) stands ∙ e ∙ same

  half_back : (k n : ℕ) → n < 65536 → take 2 (drop k text) ≡ bytes16 n → le16 s (at + k) ≡ n
  unfolding le16
  half_back k n f e = ap (λ (l : List ℕ). little (take 2 l)) (on k) ∙ ap little e ∙ little_bytes 2 n f

  number_back : (k : ℕ) (z : ℤ) → SFits w32 z → take 4 (drop k text) ≡ bytes32 (bits32 z) → signed32 (le32 s (at + k)) ≡ z
  unfolding le32
  number_back k z f e = ap (λ (l : List ℕ). signed32 (little (take 4 l))) (on k) ∙ ap (λ (l : List ℕ). signed32 (little l)) e ∙ signed_back z f

  first_back : (n : ℕ) → n < 256 → get_or text 0 0 ≡ n % 256 → get_or s at 0 ≡ n
  first_back n f e = ap (λ (k : ℕ). get_or s k 0) (sym (add-zero at)) ∙ byte_back 0 n f e

question_back : (s : List ℕ) (at : ℕ) (q : Question) (rest : List ℕ) → drop at s ≡ question_bytes q ++ rest → QuestionFits q → question_at s at ≡ q
unfolding question_at question_bytes four_bytes four_numbers
question_back s at q rest stands fits =
    let byte = byte_back s at (question_bytes q ++ rest) stands in
    let number = number_back s at (question_bytes q ++ rest) stands in
    rw (
      first_back s at (question_bytes q ++ rest) stands q.kind fits.kind_fits refl,
      byte strict_at q.strict fits.strict_fits refl,
      byte start_marks_at q.start_marks fits.start_marks_fit refl,
      byte end_marks_at q.end_marks fits.end_marks_fit refl,
      number start_at q.start fits.start_fits refl,
      number start_offset_at q.start_offset fits.start_offset_fits refl,
      number end_at q.end fits.end_fits refl,
      number end_offset_at q.end_offset fits.end_offset_fits refl,
    )

answer_back : (s : List ℕ) (at : ℕ) (a : Answer) (rest : List ℕ) → drop at s ≡ answer_bytes a ++ rest → AnswerFits a → answer_at s at ≡ a
unfolding answer_at answer_bytes four_bytes four_numbers
answer_back s at a rest stands fits =
    let byte = byte_back s at (answer_bytes a ++ rest) stands in
    let half = half_back s at (answer_bytes a ++ rest) stands in
    let number = number_back s at (answer_bytes a ++ rest) stands in
    rw (
      first_back s at (answer_bytes a ++ rest) stands a.mark fits.mark_fits refl,
      byte refusal_at a.number fits.number_fits refl,
      byte start_star_at a.start.star fits.start_fits.star_fits refl,
      byte end_star_at a.end.star fits.end_fits.star_fits refl,
      number start_at a.start.base fits.start_fits.base_fits refl,
      number start_offset_at a.start.offset fits.start_fits.offset_fits refl,
      number end_at a.end.base fits.end_fits.base_fits refl,
      number end_offset_at a.end.offset fits.end_fits.offset_fits refl,
      half start_exon_at a.start.exon fits.start_fits.exon_fits refl,
      half end_exon_at a.end.exon fits.end_fits.exon_fits refl,
    )

pub entry_back : (s : List ℕ) (at : ℕ) (e : Entry) (rest : List ℕ) → drop at s ≡ entry_bytes e ++ rest → EntryFits e → entry_at s at ≡ e
unfolding entry_at entry_bytes question_bytes answer_bytes four_bytes four_numbers
entry_back s at e rest stands fits =
    rw (
      question_back s at e.question (answer_bytes e.answer ++ rest) stands fits.question_fits,
      answer_back s (at + question_size) e.answer rest (on s at (entry_bytes e ++ rest) stands question_size) fits.answer_fits,
    )

-- ---- what was read

module _ (s : List ℕ) (at : ℕ) (bs : Bytes s) where
  -- what questions and answers have in common
  front_laid : at + question_size ≤ length s
      → four_bytes (get_or s at 0) (get_or s (at + 1) 0) (get_or s (at + 2) 0) (get_or s (at + 3) 0)
      ++ four_numbers (signed32 (le32 s (at + start_at))) (signed32 (le32 s (at + start_offset_at))) (signed32 (le32 s (at + end_at))) (signed32 (le32 s (at + end_offset_at)))
      ≡ take question_size (drop at s)
  unfolding four_bytes four_numbers
  front_laid h =
      beside s at end_offset_at 4
      (beside s at end_at 4
      (beside s at start_offset_at 4
      (beside s at start_at 4
      (beside s at 3 1
      (beside s at 2 1
      (beside s at 1 1 (byte_laid s at bs (omega arith)) (byte_laid s (at + 1) bs (omega arith)))
      (byte_laid s (at + 2) bs (omega arith)))
      (byte_laid s (at + 3) bs (omega arith)))
      (field_laid s (at + start_at) bs (omega arith)))
      (field_laid s (at + start_offset_at) bs (omega arith)))
      (field_laid s (at + end_at) bs (omega arith)))
      (field_laid s (at + end_offset_at) bs (omega arith))

  answer_laid : at + answer_size ≤ length s → answer_bytes (answer_at s at) ≡ take answer_size (drop at s)
  unfolding answer_at answer_bytes four_bytes four_numbers
  answer_laid h =
      beside s at end_exon_at 2
      (beside s at start_exon_at 2 (front_laid (omega arith)) (bytes16_le s (at + start_exon_at) bs (omega arith)))
      (bytes16_le s (at + end_exon_at) bs (omega arith))

  number_fits : (k : ℕ) → at + k + 4 ≤ length s → SFits w32 (signed32 (le32 s (at + k)))
  number_fits k h = signed_fits (le32 s (at + k)) (le32_below s (at + k) bs h)

  question_fits : at + question_size ≤ length s → QuestionFits (question_at s at)
  unfolding question_at
  question_fits h = record {
    kind_fits = bs.below at;
    strict_fits = bs.below (at + strict_at);
    start_marks_fit = bs.below (at + start_marks_at);
    end_marks_fit = bs.below (at + end_marks_at);
    start_fits = number_fits start_at (omega arith);
    start_offset_fits = number_fits start_offset_at (omega arith);
    end_fits = number_fits end_at (omega arith);
    end_offset_fits = number_fits end_offset_at (omega arith);
  }

  answer_fits : at + answer_size ≤ length s → AnswerFits (answer_at s at)
  unfolding answer_at
  answer_fits h = record {
    number_fits = bs.below (at + refusal_at);
    mark_fits = bs.below at;
    start_fits = record {
      base_fits = number_fits start_at (omega arith);
      offset_fits = number_fits start_offset_at (omega arith);
      star_fits = bs.below (at + start_star_at);
      exon_fits = le16_below s (at + start_exon_at) bs (omega arith);
    };
    end_fits = record {
      base_fits = number_fits end_at (omega arith);
      offset_fits = number_fits end_offset_at (omega arith);
      star_fits = bs.below (at + end_star_at);
      exon_fits = le16_below s (at + end_exon_at) bs (omega arith);
    };
  }

module _ (s : List ℕ) (at : ℕ) (bs : Bytes s) (h : at + entry_size ≤ length s) where
  pub bytes_back : entry_bytes (entry_at s at) ≡ take entry_size (drop at s)
  unfolding entry_at entry_bytes question_at question_bytes
  bytes_back = beside s at question_size answer_size (front_laid s at bs (omega arith)) (answer_laid s (at + question_size) bs (omega arith))

  pub entry_fits : EntryFits (entry_at s at)
  unfolding entry_at
  entry_fits = record { question_fits = question_fits s at bs (omega arith); answer_fits = answer_fits s (at + question_size) bs (omega arith) }

-- ---- 44 bytes alone

pub of_bytes : (e : Entry) → EntryFits e → entry_of (entry_bytes e) ≡ e
of_bytes e f = entry_back (entry_bytes e) 0 e [] (sym (append-nil (entry_bytes e))) f

pub bytes_of : (bs : List ℕ) → Bytes bs → length bs ≡ entry_size → entry_bytes (entry_of bs) ≡ bs
bytes_of bs b h = bytes_back bs 0 b (omega arith) ∙ take_all entry_size bs (omega arith)

pub one_entry : (e f : Entry) → EntryFits e → EntryFits f → entry_bytes e ≡ entry_bytes f → e ≡ f
one_entry e f ef ff h = sym (of_bytes e ef) ∙ ap entry_of h ∙ of_bytes f ff
