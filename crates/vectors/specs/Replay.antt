-- Rows that are replayed one after the other over memory that is lent to all of them, and their counts. Assumes nothing.
use Rattle.std.specs.Prelude.{ℕ, zero, suc, Bool, false, List, length, drop, replicate, ℤ, pos, ◌==◌, nat_lt, if◌then◌else◌}
use Rattle.refusals.specs.Numbers.{most_segments, most_starts}
use Rattle.segments.specs.Tables.{Tables, tables}
use Rattle.lending.specs.Lending.{lent_at}
use Rattle.comparing.specs.Sizes.{head_numbers}
use Rattle.rows.specs.Rows.{first_of, call_of, expected, row_size}
use Rattle.vectors.specs.Questions.{question_words}
use Rattle.comparing.specs.Changes.{head_after, tables_then, exons_then, change_words}
use Rattle.comparing.specs.Texts.{text_row_agrees}
use Rattle.comparing.specs.Bam.{bam_row_agrees}
use Rattle.vectors.specs.Tally.{counts, counted}

-- ---- one row: 1 to 4 change the lent transcript, 5 to 12 ask it, and the others lend none

unfoldable pub agreed : List ℕ → List ℤ → Tables → List ℕ → Bool
agreed row head t exons =
    if nat_lt (call_of row) 1 then false
    else if nat_lt (call_of row) 5 then expected row (change_words row (head_after row head) (tables_then row t))
    else if nat_lt (call_of row) 13 then expected row (question_words row (lent_at head t.genome t.transcript t.letters exons))
    else if nat_lt (call_of row) 19 then text_row_agrees row
    else bam_row_agrees row

unfoldable pub head_next : List ℕ → List ℤ → List ℤ
head_next row head = if nat_lt (call_of row) 1 then head else if nat_lt (call_of row) 5 then head_after row head else head

unfoldable pub tables_next : List ℕ → Tables → Tables
tables_next row t = if nat_lt (call_of row) 1 then t else if nat_lt (call_of row) 5 then tables_then row t else t

unfoldable pub exons_next : List ℕ → List ℕ → List ℕ
exons_next row exons = if nat_lt (call_of row) 1 then exons else if nat_lt (call_of row) 5 then exons_then row exons else exons

-- ---- k rows at most, up to the end or to one that is cut off

unfoldable pub replayed_from : ℕ → List ℕ → List ℤ → Tables → List ℕ → List ℕ → List ℕ
replayed_from zero left head t exons tally = tally
replayed_from (suc k) left head t exons tally =
    let row = first_of left (row_size left) in
    if row_size left == 0 then tally
    else replayed_from k (drop (row_size left) left) (head_next row head) (tables_next row t) (exons_next row exons) (counted tally row (agreed row head t exons))

-- a file has no more rows than bytes; memory and counts begin with zeros
abbrev pub replayed : List ℕ → List ℕ
replayed file =
    replayed_from (length file) file (replicate head_numbers (pos 0)) (tables (replicate most_starts 0) (replicate most_starts 0) (replicate most_segments 0)) (replicate most_segments 0) (replicate counts 0)
