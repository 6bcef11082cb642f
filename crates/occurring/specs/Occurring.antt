-- Each refusal of the table's rows occurs: for each number of a row an input that is refused with it, in the row's order. With `refusals` of `refusing` the rows are exact. Assumes nothing.
use Rattle.std.specs.Prelude.{ℕ, List, [], ◌∷◌, ◌++◌, map, ◌≡◌, ℤ, pos, negsuc, length, replicate, drop}
use Rattle.refusals.specs.Outcome.{Err}
use Rattle.cigar.specs.Elements.{letter_d, letter_m}
use Rattle.cigar.specs.Read.{read_text}
use Rattle.spelling.specs.Write.{writing}
use Rattle.words.specs.Words.{read_words, write_words}
use Rattle.records.specs.Records.{Record}
use Rattle.judging.specs.Input.{input_of, numbers_of}
use Rattle.judging.specs.Judging.{judge, judge_length}
use Rattle.judging.specs.laws.Worked.{row, bytes_of, digit, letter_s, ten, nines, rows_a, bounded, one}
use Rattle.transcript.specs.declared.Numbers.{Numbers}
use Rattle.card.specs.Layout.{mark}
use Rattle.card.specs.Card.{card_text}
use Rattle.card.specs.Writing.{judge_card, card_writing}
use Rattle.refusing.specs.Refusals.{reading_refusals, writing_refusals, reading_words_refusals, writing_words_refusals, building_refusals, card_refusals, length_refusals, card_writing_refusals}

-- a CIGAR of one segment too many
abbrev many : List ℕ
many = replicate 2049 letter_m

-- too many segments; `S`; `99999999999M`
abbrev pub ReadCigarOccurs : Type 0
ReadCigarOccurs = map read_text (many ∷ (letter_s ∷ []) ∷ (nines ++ (letter_m ∷ [])) ∷ []) ≡ map Err reading_refusals

-- too many elements; `S`; a count below 0; no room for one byte
abbrev pub WriteCigarOccurs : Type 0
WriteCigarOccurs =
    writing 2049 (pos 1 ∷ []) (letter_m ∷ []) 9
    ∷ writing 1 (pos 1 ∷ []) (letter_s ∷ []) 9
    ∷ writing 1 (negsuc 0 ∷ []) (letter_m ∷ []) 9
    ∷ writing 1 (pos 1 ∷ []) (letter_m ∷ []) 0
    ∷ [] ≡ map Err writing_refusals

-- a clipped base; too many words; no room for one
abbrev pub ReadBamOccurs : Type 0
ReadBamOccurs = read_words (4 ∷ []) 9 9 ∷ read_words (replicate 2049 0) 9 9 ∷ read_words (0 ∷ []) 9 0 ∷ [] ≡ map Err reading_words_refusals

-- `S`; a count below 0; too many elements; no room for one
abbrev pub WriteBamOccurs : Type 0
WriteBamOccurs =
    write_words 1 (pos 1 ∷ []) (letter_s ∷ []) 9
    ∷ write_words 1 (negsuc 0 ∷ []) (letter_m ∷ []) 9
    ∷ write_words 2049 [] (replicate 2048 letter_m) 9
    ∷ write_words 1 (pos 1 ∷ []) (letter_m ∷ []) 0
    ∷ [] ≡ map Err writing_words_refusals

-- ---- building

-- numbers beside records' bytes
abbrev Handed : Type 0
Handed = Numbers × List ℕ

-- records on strand 1, with CDS bits, start and end
abbrev handed : ℕ → ℤ → ℤ → List Record → Handed
handed bits start end rs = (numbers_of (pos 1) bits start end (length rs), bytes_of rs)

abbrev plain : List Record → Handed
plain rs = handed 0 (pos 0) (pos 0) rs

-- no record; no strand; a byte too many; CDS bits above 3; too many segments; a bound below 0; `ord` that stands still; exons that are not adjacent; `S`; `99999999999M`;
-- a first start above the largest; no segment; one CDS bit; a CDS end above the length; `10M` on 9 bases
abbrev samples : List Handed
samples =
    plain []
    ∷ (numbers_of (pos 0) 0 (pos 0) (pos 0) 2, bytes_of rows_a)
    ∷ (numbers_of (pos 1) 0 (pos 0) (pos 0) 2, bytes_of rows_a ++ (0 ∷ []))
    ∷ handed 4 (pos 0) (pos 0) rows_a
    ∷ plain (one 0 many)
    ∷ plain (row (pos 5) (pos 6) (negsuc 0) (pos 3) (pos 0) ten ∷ [])
    ∷ plain (row (pos 0) (pos 1) (pos 0) (pos 5) (pos 0) [] ∷ row (pos 2) (pos 3) (pos 5) (pos 9) (pos 0) [] ∷ [])
    ∷ plain (row (pos 0) (pos 1) (pos 0) (pos 5) (pos 0) [] ∷ row (pos 2) (pos 3) (pos 6) (pos 9) (pos 1) [] ∷ [])
    ∷ plain (one 0 (letter_s ∷ []))
    ∷ plain (one 0 (nines ++ (letter_m ∷ [])))
    ∷ plain (one 2000000001 (digit 5 ∷ letter_d ∷ []))
    ∷ plain (one 0 [])
    ∷ handed 1 (pos 0) (pos 0) rows_a
    ∷ handed 3 (pos 3) (pos 19) rows_a
    ∷ plain (bounded 0 9 ten)
    ∷ []

abbrev pub BuildOccurs : Type 0
BuildOccurs = map (λ (x : Handed). judge x.0 x.1) samples ≡ map Err building_refusals

-- a length below 0; one above the largest; one CDS bit; a CDS end above the length; bits above 3
abbrev pub BuildLengthOccurs : Type 0
BuildLengthOccurs =
    judge_length (negsuc 0) 0 (pos 0) (pos 0)
    ∷ judge_length (pos 2000000001) 0 (pos 0) (pos 0)
    ∷ judge_length (pos 18) 2 (pos 0) (pos 15)
    ∷ judge_length (pos 18) 3 (pos 3) (pos 19)
    ∷ judge_length (pos 18) 4 (pos 0) (pos 0)
    ∷ [] ≡ map Err length_refusals

-- ---- cards

-- A, for which there is no room; and what building refuses
abbrev pub WriteCardOccurs : Type 0
WriteCardOccurs = map (λ (x : Handed). card_writing x.0 x.1 0) (handed 3 (pos 3) (pos 15) rows_a ∷ samples) ≡ map Err card_writing_refusals

-- the card of what is handed over
abbrev card : Handed → List ℕ
card x = card_text (input_of x.0 x.1)

-- no record; no byte; version 2; and what building refuses once the strand is known
abbrev pub BuildCardOccurs : Type 0
BuildCardOccurs = map judge_card (card (plain []) ∷ [] ∷ (mark ++ (2 ∷ 0 ∷ [])) ∷ map card (drop 4 samples)) ≡ map Err card_refusals
