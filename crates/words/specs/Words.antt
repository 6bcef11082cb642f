-- CIGAR words of BAM, as the SAM/BAM specification has them: 32 bits, the length in the upper 28 and the code in the lower 4, so that a word is its length times 16, and its code.
-- Words and elements keep their order. BAM's run along the genome and a record's along the transcript, so on strand -1 a caller turns them round. Assumes nothing.
use Rattle.std.specs.Prelude.{ℕ, zero, suc, ◌+◌, ◌*◌, ◌/◌, ◌%◌, ◌≤◌, min, Bool, true, not, ◌&&◌, List, [], ◌∷◌, map, ltb, eqb, ℤ, pos, nat_abs, length, get_or, if◌then◌else◌}
use Rattle.std.specs.Int.Signed.{lt_z}
use Rattle.refusals.specs.Numbers.{most_segments, most_word_count}
use Rattle.refusals.specs.declared.Refusal.TheVariants.{TooMuch, NoElement, NoRoom, NoOperation, NoWord}
use Rattle.refusals.specs.Outcome.{Ok, Err, Test, no_fault, unless, Outcome}
use Rattle.cigar.specs.Bytes.{ascii}
use Rattle.cigar.specs.Elements.{Element, is_letter, letter_d, letter_i}
use Rattle.cigar.specs.Text.{Reading, element}
use Rattle.spelling.specs.Write.{Writing}

-- ---- letters and codes

-- BAM numbers its letters from 0 on
abbrev pub bam_letters : List ℕ
bam_letters = ascii "MIDNSHP=X"

-- BAM's letter of a code, 0 where it has none
abbrev pub bam_letter : ℕ → ℕ
bam_letter code = get_or bam_letters code 0

-- BAM's I is our D and its D our I; all other letters carry over
abbrev pub exchanged : ℕ → ℕ
exchanged letter =
    if eqb letter letter_i then letter_d
    else if eqb letter letter_d then letter_i
    else letter

-- our letter of a code
unfoldable pub letter_of : ℕ → ℕ
letter_of code = exchanged (bam_letter code)

-- the place of a letter among others, from 0 on
abbrev pub place_in : List ℕ → ℕ → ℕ
place_in [] letter = 0
place_in (x ∷ xs) letter = if eqb letter x then 0 else suc (place_in xs letter)

-- the code of a letter of ours
unfoldable pub code_of : ℕ → ℕ
code_of letter = place_in bam_letters (exchanged letter)

-- ---- words and elements

-- the lower 4 bits have room for so many codes
abbrev pub codes_of_word : ℕ
codes_of_word = 16

abbrev pub length_in : ℕ → ℕ
length_in word = word / codes_of_word

abbrev pub code_in : ℕ → ℕ
code_in word = word % codes_of_word

abbrev pub element_of_word : ℕ → Element
element_of_word word = element (length_in word) (letter_of (code_in word))

abbrev pub word_of : Element → ℕ
word_of x = x.count * codes_of_word + code_of x.letter

-- ---- reading

-- a word whose code is that of one of the six letters
abbrev pub is_known : ℕ → Bool
is_known word = is_letter (letter_of (code_in word))

unfoldable pub all_known : List ℕ → Bool
all_known [] = true
all_known (w ∷ ws) = is_known w && all_known ws

-- What words read as, for two lent tables of these lengths: 30 where any of them has another code, then 3 where they are too many, then 20 where a table is shorter.
unfoldable pub read_words : List ℕ → ℕ → ℕ → Reading
read_words words counts_room letters_room =
    if not (all_known words) then Err NoOperation
    else if ltb most_segments (length words) then Err TooMuch
    else if ltb counts_room (length words) then Err NoRoom
    else if ltb letters_room (length words) then Err NoRoom
    else Ok (map element_of_word words)

-- ---- writing

-- an element's refusal: 7 where its letter is not of the six, then 31 where its count is below 0 or above the largest length
unfoldable pub fault_of : ℤ → ℕ → Test
fault_of count letter =
    if not (is_letter letter) then Err NoElement
    else if lt_z count (pos 0) then Err NoWord
    else if lt_z (pos most_word_count) count then Err NoWord
    else no_fault

-- the first refusal at m places of the tables from place i on
unfoldable pub fault_from : List ℤ → List ℕ → ℕ → ℕ → Test
fault_from counts letters i zero = no_fault
fault_from counts letters i (suc m) = unless (fault_of (get_or counts i (pos 0)) (get_or letters i 0)) (fault_from counts letters (i + 1) m)

-- the elements at m places of the tables from place i on
unfoldable pub elements_at : List ℤ → List ℕ → ℕ → ℕ → List Element
elements_at counts letters i zero = []
elements_at counts letters i (suc m) = element (nat_abs (get_or counts i (pos 0))) (get_or letters i 0) ∷ elements_at counts letters (i + 1) m

-- What the first elements of two tables are written as, for that many lent words: the first element's 7 or 31 of those that the tables can hold, then 3 where they
-- are too many, then 20 where there is no room for their words.
unfoldable pub write_words : ℕ → List ℤ → List ℕ → ℕ → Writing
write_words number counts letters room =
    unless (fault_from counts letters 0 (min number most_segments))
    (if ltb most_segments number then Err TooMuch
    else if ltb room number then Err NoRoom
    else Ok (map word_of (elements_at counts letters 0 number)))

-- how many words were written
abbrev pub counted_words : Writing → Outcome ℕ
counted_words (Ok words) = Ok (length words)
counted_words (Err k) = Err k

-- both tables have a place for each of that many
pub record Room (counts : List ℤ) (letters : List ℕ) (number : ℕ) : Type 0 where
  pub counts_room : number ≤ length counts
  pub letters_room : number ≤ length letters
