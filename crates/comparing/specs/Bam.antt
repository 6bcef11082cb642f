-- Rows about CIGAR words of BAM: how words are laid out in a row's bytes, and what the slices that are lent for words and elements are to hold. Assumes nothing.
use Rattle.std.specs.Prelude.{ℕ, zero, suc, ◌*◌, ◌/◌, Bool, false, ◌&&◌, List, ltb, leb, eqb, ℤ, pos, length, get_or, set, replicate, if◌then◌else◌}
use Rattle.whole.specs.Whole.{eq_z}
use Rattle.fields.specs.Fields.{le32}
use Rattle.refusals.specs.Numbers.{most_segments}
use Rattle.cigar.specs.Text.{Reading, counted_of}
use Rattle.cigar.specs.Read.{counts_after, letters_after}
use Rattle.spelling.specs.Write.{Writing, buffer_after}
use Rattle.words.specs.Words.{read_words, write_words, counted_words}
use Rattle.segments.specs.Tables.{all_below}
use Rattle.results.specs.Results.{counted_laid}
use Rattle.comparing.specs.Sizes.{most_words}
use Rattle.rows.specs.Rows.{first_of, behind, call_of, recorded_size, payload_of, expected}
use Rattle.comparing.specs.Words.{length_words}
use Rattle.comparing.specs.Texts.{laid_out, recorded_count, letter_at, counts_table, letters_table, row_elements, behind_elements, holds_each}

-- ---- words of 32 bits, and what stands at a place of a layout, 0 where there is none

abbrev pub words_laid : List ℕ → ℕ
words_laid s = length s / 4

unfoldable pub word_or : List ℕ → ℕ → ℕ
word_or s i = if ltb i (words_laid s) then le32 s (4 * i) else 0

unfoldable pub count_or : List ℕ → ℕ → ℤ
count_or s i = if ltb i (laid_out s) then recorded_count s i else pos 0

unfoldable pub letter_or : List ℕ → ℕ → ℕ
letter_or s i = if ltb i (laid_out s) then letter_at s i else 0

-- a slice with the words of a layout at its first n places
unfoldable pub words_put : List ℕ → List ℕ → ℕ → List ℕ
words_put s words zero = words
words_put s words (suc i) = set (words_put s words i) i (word_or s i)

-- ---- a slice that holds what is laid out and after it only zeros

unfoldable pub holds_words : List ℕ → List ℕ → Bool
holds_words words s = holds_each (word_or s) (words_laid s) words

unfoldable pub holds_letters : List ℕ → List ℕ → Bool
holds_letters letters s = holds_each (letter_or s) (laid_out s) letters

unfoldable pub is_count : List ℕ → ℕ → ℤ → Bool
is_count s i count = eq_z (count_or s i) count

unfoldable pub holds_counts : List ℤ → List ℕ → Bool
holds_counts counts s = all_below (λ (i : ℕ). is_count s i (get_or counts i (pos 0))) (length counts) && leb (laid_out s) (length counts)

-- ---- by the call's number

-- the words of what was read are those that the row expects, and the two slices then hold the elements
unfoldable pub elements_agree : List ℕ → Reading → List ℤ → List ℕ → List ℕ → Bool
elements_agree row read counts letters elements =
    (expected row (length_words (counted_laid (counted_of read))) && holds_counts (counts_after counts read) elements) && holds_letters (letters_after letters read) elements

-- what the row's words read as, in slices that held zeros
abbrev pub bam_read : List ℕ → Reading
bam_read row = read_words (words_put (first_of (payload_of row) (4 * recorded_size row 0)) (replicate (recorded_size row 0) 0) (recorded_size row 0)) (recorded_size row 1) (recorded_size row 2)

-- the words stand before the elements in the row's bytes; the row says how many words there are and how many places the slices have
unfoldable pub read_bam_agrees : List ℕ → Bool
read_bam_agrees row =
    if ltb most_words (recorded_size row 0) then false
    else if ltb most_words (recorded_size row 1) then false
    else if ltb most_words (recorded_size row 2) then false
    else elements_agree row (bam_read row) (replicate (recorded_size row 1) (pos 0)) (replicate (recorded_size row 2) 0) (behind (payload_of row) (4 * recorded_size row 0))

-- the words of what was written are those that the row expects, and the slice then holds the words laid out
unfoldable pub words_agree : List ℕ → Writing → List ℕ → List ℕ → Bool
words_agree row w words layout = expected row (length_words (counted_laid (counted_words w))) && holds_words (buffer_after words w) layout

-- the words of a row's elements
abbrev pub bam_written : List ℕ → Writing
bam_written row = write_words (recorded_size row 0) (counts_table (row_elements row)) (letters_table (row_elements row)) (recorded_size row 2)

-- the row says how many words are lent
unfoldable pub write_bam_agrees : List ℕ → Bool
write_bam_agrees row =
    if ltb most_segments (laid_out (row_elements row)) then false
    else if ltb most_words (recorded_size row 2) then false
    else words_agree row (bam_written row) (replicate (recorded_size row 2) 0) (behind_elements row)

unfoldable pub bam_row_agrees : List ℕ → Bool
bam_row_agrees row =
    if eqb (call_of row) 19 then read_bam_agrees row
    else if eqb (call_of row) 20 then write_bam_agrees row
    else false
