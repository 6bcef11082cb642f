-- What a row that builds or damages the lent transcript leaves in lent memory, and the words that it would record. Assumes nothing.
use Rattle.transcript.specs.declared.Head.{Head}
use Rattle.std.specs.Prelude.{ℕ, ◌%◌, List, ltb, leb, eqb, ℤ, pos, get_or, set, if◌then◌else◌}
use Rattle.refusals.specs.Numbers.{most_segments, most_starts}
use Rattle.refusals.specs.Outcome.{Outcome}
use Rattle.transcript.specs.declared.Numbers.{Numbers}
use Rattle.segments.specs.Tables.{Tables, tables}
use Rattle.judging.specs.Input.{numbers_of}
use Rattle.judging.specs.Judging.{Made, Measured, judge, judge_length}
use Rattle.building.specs.Afterwards.{built_answer, length_answer, tables_after, exons_after}
use Rattle.card.specs.Writing.{judge_card}
use Rattle.results.specs.Results.{built_number, built_head}
use Rattle.comparing.specs.Sizes.{head_numbers}
use Rattle.rows.specs.Rows.{call_of, flags_of, recorded_size, recorded_number, payload_of, recorded_answer}
use Rattle.comparing.specs.Words.{six_words, two_words}

-- ---- building

-- building's numbers as a row has them
abbrev pub recorded_numbers : List ℕ → Numbers
recorded_numbers row = numbers_of (recorded_number row 0) (flags_of row) (recorded_number row 1) (recorded_number row 2) (recorded_size row 3)

-- what the row's card, its records, and its length make
abbrev pub card_made : List ℕ → Outcome Made
card_made row = judge_card (payload_of row)

abbrev pub records_made : List ℕ → Outcome Made
records_made row = judge (recorded_numbers row) (payload_of row)

abbrev pub length_made : List ℕ → Outcome Measured
length_made row = judge_length (recorded_number row 0) (flags_of row) (recorded_number row 1) (recorded_number row 2)

-- the start of a table at the segment count that the row expects, 0 where the table has no such place
unfoldable pub total_of : List ℕ → List ℕ → ℕ
total_of row starts = if leb most_starts (recorded_answer row 3) then 0 else get_or starts (recorded_answer row 3) 0

-- strand, first start, segment count and the two lengths, as memory then has them; or the refusal's number
unfoldable pub records_words : List ℕ → ℕ → List ℤ → List ℕ → List ℕ → List ℤ
records_words row number head genome transcript =
    if eqb number 0 then six_words (pos 0) (get_or head 1 (pos 0)) (get_or head 2 (pos 0)) (get_or head 3 (pos 0)) (pos (total_of row genome)) (pos (total_of row transcript))
    else two_words number (pos 0)

-- the length alone; or the refusal's number
unfoldable pub length_only_words : ℕ → List ℤ → List ℤ
length_only_words number head =
    if eqb number 0 then six_words (pos 0) (pos 0) (pos 0) (pos 0) (pos 0) (get_or head 7 (pos 0))
    else two_words number (pos 0)

-- of what was built, with the memory afterwards
abbrev pub built_words : List ℕ → Outcome Head → List ℤ → Tables → List ℤ
built_words row b head t = records_words row (built_number b) head t.genome t.transcript

-- ---- damage: one number of the head (0), of a table of starts (1, 2), of the letters (3) or of the exon numbers (4) is set, where there is such a place

unfoldable pub head_damaged : List ℕ → List ℤ → List ℤ
head_damaged row head = if eqb (recorded_size row 0) 0 then set head (recorded_size row 1) (recorded_number row 2) else head

unfoldable pub starts_damaged : ℕ → List ℕ → List ℕ → List ℕ
starts_damaged which row starts = if eqb (recorded_size row 0) which then set starts (recorded_size row 1) (recorded_size row 2) else starts

unfoldable pub letters_damaged : List ℕ → List ℕ → List ℕ
letters_damaged row letters = if eqb (recorded_size row 0) 3 then set letters (recorded_size row 1) (recorded_size row 2 % 256) else letters

unfoldable pub exons_damaged : List ℕ → List ℕ → List ℕ
exons_damaged row exons = if eqb (recorded_size row 0) 4 then set exons (recorded_size row 1) (recorded_size row 2 % 65536) else exons

abbrev pub tables_damaged : List ℕ → Tables → Tables
tables_damaged row t = tables (starts_damaged 1 row t.genome) (starts_damaged 2 row t.transcript) (letters_damaged row t.letters)

-- how many places the memory of that number has
unfoldable pub places_of : ℕ → ℕ
places_of which = if eqb which 0 then head_numbers else if ltb which 3 then most_starts else if ltb which 5 then most_segments else 0

-- nothing is answered; where there is no such place, a number that no such row expects
unfoldable pub damage_words : List ℕ → List ℤ
damage_words row = if ltb (recorded_size row 1) (places_of (recorded_size row 0)) then two_words 0 (pos 0) else two_words 1 (pos 0)

-- ---- by the call's number

unfoldable pub head_after : List ℕ → List ℤ → List ℤ
head_after row head =
    if eqb (call_of row) 1 then built_head (built_answer (card_made row)) head
    else if eqb (call_of row) 2 then built_head (built_answer (records_made row)) head
    else if eqb (call_of row) 3 then built_head (length_answer (length_made row)) head
    else head_damaged row head

unfoldable pub tables_then : List ℕ → Tables → Tables
tables_then row t =
    if eqb (call_of row) 1 then tables_after (card_made row) t
    else if eqb (call_of row) 2 then tables_after (records_made row) t
    else if eqb (call_of row) 3 then t
    else tables_damaged row t

unfoldable pub exons_then : List ℕ → List ℕ → List ℕ
exons_then row exons =
    if eqb (call_of row) 1 then exons_after (card_made row) exons
    else if eqb (call_of row) 2 then exons_after (records_made row) exons
    else if eqb (call_of row) 3 then exons
    else exons_damaged row exons

-- with the head and the tables as they are afterwards
unfoldable pub change_words : List ℕ → List ℤ → Tables → List ℤ
change_words row head t =
    if eqb (call_of row) 1 then built_words row (built_answer (card_made row)) head t
    else if eqb (call_of row) 2 then built_words row (built_answer (records_made row)) head t
    else if eqb (call_of row) 3 then length_only_words (built_number (length_answer (length_made row))) head
    else damage_words row
