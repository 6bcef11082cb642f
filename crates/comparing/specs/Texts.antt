-- Rows about CIGAR text, written cards and alleles: how elements are laid out in a row's bytes, and what a buffer is to hold. Assumes nothing.
use Rattle.std.specs.Prelude.{ℕ, zero, suc, ◌+◌, ◌*◌, ◌/◌, Bool, false, ◌&&◌, List, [], ltb, leb, eqb, ℤ, pos, length, get_or, set, replicate, if◌then◌else◌}
use Rattle.whole.specs.Whole.{eq_z}
use Rattle.sequences.specs.Alleles.{prefix_len, suffix_len, changed_part}
use Rattle.fields.specs.Fields.{le32, signed32}
use Rattle.refusals.specs.Numbers.{most_segments}
use Rattle.cigar.specs.Text.{Reading, counted_of}
use Rattle.cigar.specs.Read.{read_text, counts_after, letters_after}
use Rattle.spelling.specs.Write.{Writing, writing, written_answer, buffer_after}
use Rattle.segments.specs.Tables.{all_below}
use Rattle.card.specs.Layout.{records_at}
use Rattle.card.specs.Writing.{card_writing}
use Rattle.results.specs.Results.{counted_laid, part_laid}
use Rattle.results.specs.declared.Part.{Part}
use Rattle.comparing.specs.Sizes.{most_room}
use Rattle.rows.specs.Rows.{first_of, behind, call_of, recorded_size, payload_of, expected}
use Rattle.comparing.specs.Words.{six_words, two_words, size_word, length_words}
use Rattle.comparing.specs.Changes.{recorded_numbers}

-- ---- elements: a count of 32 bits and a letter each

abbrev pub laid_out : List ℕ → ℕ
laid_out s = length s / 5

abbrev pub recorded_count : List ℕ → ℕ → ℤ
recorded_count s i = signed32 (le32 s (5 * i))

abbrev pub letter_at : List ℕ → ℕ → ℕ
letter_at s i = get_or s (5 * i + 4) 0

unfoldable pub is_element : List ℕ → ℕ → ℤ → ℕ → Bool
is_element s i count letter = eq_z (recorded_count s i) count && eqb (letter_at s i) letter

-- the tables begin with the elements
unfoldable pub begin_with : List ℕ → List ℤ → List ℕ → Bool
begin_with s counts letters = all_below (λ (i : ℕ). is_element s i (get_or counts i (pos 0)) (get_or letters i 0)) (laid_out s)

-- the tables with the first n elements at their front
unfoldable pub counts_put : List ℕ → List ℤ → ℕ → List ℤ
counts_put s counts zero = counts
counts_put s counts (suc i) = set (counts_put s counts i) i (recorded_count s i)

unfoldable pub letters_put : List ℕ → List ℕ → ℕ → List ℕ
letters_put s letters zero = letters
letters_put s letters (suc i) = set (letters_put s letters i) i (letter_at s i)

-- those of a layout in tables that held zeros
abbrev pub counts_table : List ℕ → List ℤ
counts_table s = counts_put s (replicate most_segments (pos 0)) (laid_out s)

abbrev pub letters_table : List ℕ → List ℕ
letters_table s = letters_put s (replicate most_segments 0) (laid_out s)

-- the elements that a row gives stand before what is to be written of them
abbrev pub row_elements : List ℕ → List ℕ
row_elements row = first_of (payload_of row) (5 * recorded_size row 1)

abbrev pub behind_elements : List ℕ → List ℕ
behind_elements row = behind (payload_of row) (5 * recorded_size row 1)

-- ---- a buffer that holds a text and after it only zeros

-- a slice holds what stands at each place, 0 past the last of so many, and has room for them
abbrev pub holds_each : (ℕ → ℕ) → ℕ → List ℕ → Bool
holds_each at number slice = all_below (λ (i : ℕ). eqb (get_or slice i 0) (at i)) (length slice) && leb number (length slice)

unfoldable pub holds_text : List ℕ → List ℕ → Bool
holds_text buffer text = holds_each (λ (i : ℕ). get_or text i 0) (length text) buffer

-- the words of what was written are those that the row expects, and the buffer then holds the text
unfoldable pub text_agrees : List ℕ → Writing → List ℕ → List ℕ → Bool
text_agrees row w buffer text = expected row (length_words (counted_laid (written_answer w))) && holds_text (buffer_after buffer w) text

-- the same for a card, of which the records are held to the buffer behind the card's head; a refusal leaves the buffer, which held zeros
unfoldable pub card_agrees : List ℕ → Writing → List ℕ → List ℕ → Bool
card_agrees row w buffer records =
    if eqb (counted_laid (written_answer w)).number 0 then expected row (length_words (counted_laid (written_answer w))) && holds_text (behind (buffer_after buffer w) records_at) records
    else expected row (length_words (counted_laid (written_answer w))) && holds_text (buffer_after buffer w) []

-- ---- alleles

abbrev pub part_words : Part → List ℤ
part_words p = six_words (pos 0) (pos p.alternative) (size_word p.from) (size_word p.to) (pos 0) (pos 0)

abbrev pub common_words : ℕ → List ℤ
common_words n = two_words 0 (size_word n)

-- by the call's number
unfoldable pub alleles_words : ℕ → List ℕ → List ℕ → List ℤ
alleles_words call reference alternative =
    if eqb call 16 then common_words (prefix_len reference alternative)
    else if eqb call 17 then common_words (suffix_len reference alternative)
    else part_words (part_laid (changed_part reference alternative))

-- the reference stands before the alternative in the row's bytes
abbrev pub alleles_agree : List ℕ → Bool
alleles_agree row = expected row (alleles_words (call_of row) (first_of (payload_of row) (recorded_size row 0)) (behind (payload_of row) (recorded_size row 0)))

-- ---- by the call's number

-- what a text reads as, in tables that held zeros, beside the elements that the row has
abbrev pub read_as : List ℕ → List ℕ → Reading → Bool
read_as row elements read =
    (expected row (length_words (counted_laid (counted_of read))) && eqb (counted_laid (counted_of read)).length (laid_out elements))
    && begin_with elements (counts_after (replicate most_segments (pos 0)) read) (letters_after (replicate most_segments 0) read)

-- the text stands before the elements in the row's bytes
unfoldable pub read_agrees : List ℕ → Bool
read_agrees row =
    if ltb most_segments (laid_out (behind (payload_of row) (recorded_size row 0))) then false
    else read_as row (behind (payload_of row) (recorded_size row 0)) (read_text (first_of (payload_of row) (recorded_size row 0)))

-- the text of a row's elements
abbrev pub written_of : List ℕ → Writing
written_of row = writing (recorded_size row 0) (counts_table (row_elements row)) (letters_table (row_elements row)) (recorded_size row 2)

-- the row says how many bytes are lent
unfoldable pub write_agrees : List ℕ → Bool
write_agrees row =
    if ltb most_segments (laid_out (row_elements row)) then false
    else if ltb most_room (recorded_size row 2) then false
    else text_agrees row (written_of row) (replicate (recorded_size row 2) 0) (behind_elements row)

unfoldable pub write_card_agrees : List ℕ → Bool
write_card_agrees row =
    if ltb most_room (recorded_size row 4) then false
    else card_agrees row (card_writing (recorded_numbers row) (payload_of row) (recorded_size row 4)) (replicate (recorded_size row 4) 0) (payload_of row)

unfoldable pub text_row_agrees : List ℕ → Bool
text_row_agrees row =
    if eqb (call_of row) 13 then read_agrees row
    else if eqb (call_of row) 14 then write_agrees row
    else if eqb (call_of row) 15 then write_card_agrees row
    else alleles_agree row
