-- Worked examples, computed: a word is its length times 16, and its code. Assumes nothing.
use Rattle.std.specs.Prelude.{◌≡◌, refl, List, [], ◌∷◌, ◌++◌, map, ℕ, ◌+◌, ◌*◌, pos, negsuc, replicate}
use Prim.Native.Char.{code}
use Rattle.refusals.specs.declared.Refusal.TheVariants.{TooMuch, NoElement, NoRoom, NoOperation, NoWord}
use Rattle.refusals.specs.Outcome.{Ok, Err}
use Rattle.cigar.specs.Bytes.{ascii}
use Rattle.cigar.specs.Elements.{Element, is_letter}
use Rattle.cigar.specs.Text.{element}
use Rattle.spelling.specs.Write.{digits_by, decimal, element_text, elements_text}
use Rattle.words.specs.Words.{letter_of, code_of, all_known, read_words, fault_of, fault_from, elements_at, write_words}
use Rattle.words.specs.Retyping.{aligners_text, retyped}

-- BAM's 10M 2I 3D
abbrev words : List ℕ
words = 160 ∷ 33 ∷ 50 ∷ []

-- ours
abbrev es : List Element
es = element 10 (code "M") ∷ element 2 (code "D") ∷ element 3 (code "I") ∷ []

pub both_ways : (read_words words 3 3 ≡ Ok es) × (write_words 3 (pos 10 ∷ pos 2 ∷ pos 3 ∷ []) (ascii "MDI") 3 ≡ Ok words)
unfolding read_words all_known is_letter letter_of write_words fault_from fault_of elements_at code_of
both_ways = (refl, refl)

-- the aligner's own text, retyped, and ours
pub texts : (aligners_text words ≡ ascii "10M2I3D") × (retyped (ascii "10M2I3D") ≡ ascii "10M2D3I") × (elements_text es ≡ ascii "10M2D3I")
unfolding aligners_text digits_by decimal element_text elements_text
texts = (refl, refl, refl)

-- the nine codes and the first without a letter; the six letters
pub letters : map letter_of (0 ∷ 1 ∷ 2 ∷ 3 ∷ 4 ∷ 5 ∷ 6 ∷ 7 ∷ 8 ∷ 9 ∷ []) ≡ ascii "MDINSHP=X" ++ 0 ∷ []
unfolding letter_of
letters = refl

pub codes_of_word : map code_of (ascii "MDIN=X") ≡ 0 ∷ 1 ∷ 2 ∷ 3 ∷ 7 ∷ 8 ∷ []
unfolding code_of
codes_of_word = refl

-- 10M and 2S are 30, before 20. 2,049 words are 3, before 20, and where the last of them is an S they are 30
pub refused_read : (read_words (160 ∷ 36 ∷ []) 0 0 ≡ Err NoOperation) × (read_words words 3 2 ≡ Err NoRoom)
    × (read_words (replicate 2049 0) 0 0 ≡ Err TooMuch) × (read_words (replicate 2048 0 ++ 36 ∷ []) 0 0 ≡ Err NoOperation)
unfolding read_words all_known is_letter letter_of
refused_read = (refl, refl, refl, refl)

-- the largest length is written; one more is 31, and so is -1; a letter S is 7 before it; the first faulty element decides, and then comes 20
pub refused_written :
    (write_words 1 (pos 268435455 ∷ []) (ascii "X") 1 ≡ Ok ((268435455 * 16 + 8) ∷ []))
    × (write_words 1 (pos 268435456 ∷ []) (ascii "M") 0 ≡ Err NoWord)
    × (write_words 1 (negsuc 0 ∷ []) (ascii "M") 0 ≡ Err NoWord)
    × (write_words 1 (pos 268435456 ∷ []) (ascii "S") 0 ≡ Err NoElement)
    × (write_words 2 (pos 268435456 ∷ pos 1 ∷ []) (ascii "MS") 0 ≡ Err NoWord)
    × (write_words 1 (pos 1 ∷ []) (ascii "M") 0 ≡ Err NoRoom)
unfolding write_words fault_from fault_of is_letter elements_at code_of
refused_written = (refl, refl, refl, refl, refl, refl)
