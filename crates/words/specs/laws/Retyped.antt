-- Words and the aligner's own text meet. Retyping changes no digit and turns BAM's letter of a code into ours, so that the text is read element by element as the words are.
--     retyped_read       the retyped text of words reads as the elements of the words
--     retyped_written    the text that is written of words that were read is the one that their retyped text gives, its refusals included
-- Assumes nothing.
use Rattle.std.specs.Prelude.{◌≡◌, refl, true, false, List, [], ◌∷◌, ◌++◌, map, ℕ, zero, suc, ◌+◌, ◌-◌, ◌/◌, ◌%◌, ◌≤◌, ◌<◌, ℤ, length}
use Rattle.std.proofs.Common.{sym, ap, ap₂, subst, ◌∙◌, arith, ne_eqb, le-ltb}
use Rattle.std.proofs.lemmas.List.{map-append, length-map}
use Rattle.std.proofs.Math.Decide.{dec_lt}
use Rattle.whole.specs.laws.Whole.{both}
use Rattle.refusals.specs.Numbers.{most_segments}
use Rattle.refusals.specs.Outcome.{Ok}
use Rattle.cigar.specs.Elements.{Element, letter_d, letter_i}
use Rattle.cigar.specs.Text.{before, read_from, read_all}
use Rattle.cigar.specs.Read.{counts_after, letters_after}
use Rattle.spelling.specs.Write.{decimal, text_of, writing}
use Rattle.spelling.proofs.laws.Decimal.{decimal_one, decimal_more}
use Rattle.cigar.specs.laws.Sound.{AllSound}
use Rattle.spelling.proofs.laws.RoundTrip.{read_count, read_letter}
use Rattle.spelling.proofs.laws.BothWays.{given_back}
use Rattle.words.specs.Words.{bam_letter, exchanged, letter_of, length_in, code_in, element_of_word, is_known, all_known, read_words}
use Rattle.words.specs.Retyping.{aligners_text, retyped}
use Rattle.words.specs.laws.RoundTrips.{AllFit, AllWordable, elements_wordable, read_says}

digit_stays : (d : ℕ) → d < 10 → exchanged (48 + d) ≡ 48 + d
digit_stays d h = rw (ne_eqb (48 + d) letter_i (omega arith), ne_eqb (48 + d) letter_d (omega arith))

count_stays : (k n : ℕ) → n < k → retyped (decimal n) ≡ decimal n
count_stays zero n h = absurd (omega arith)
count_stays (suc k) n h =
    elim (dec_lt n 10) [
      | yes l ↦ rw (decimal_one n l) (ap (λ (b : ℕ). b ∷ []) (digit_stays n l))
      | no g ↦
          rw (decimal_more n (omega arith))
          (map-append exchanged (decimal (n / 10)) ((48 + n % 10) ∷ [])
          ∙ ap₂ (λ (s : List ℕ) (b : ℕ). s ++ b ∷ []) (count_stays k (n / 10) (omega arith)) (digit_stays (n % 10) (omega arith)))
    ]

-- one word's text, retyped, before what follows
word_retyped : (w : ℕ) (s : List ℕ) → retyped (decimal (length_in w) ++ bam_letter (code_in w) ∷ s) ≡ decimal (length_in w) ++ letter_of (code_in w) ∷ retyped s
unfolding letter_of
word_retyped w s =
    map-append exchanged (decimal (length_in w)) (bam_letter (code_in w) ∷ s)
    ∙ ap (λ (t : List ℕ). t ++ exchanged (bam_letter (code_in w)) ∷ retyped s) (count_stays (suc (length_in w)) (length_in w) (omega arith))

pub retyped_read : (words : List ℕ) (room : ℕ) → all_known words ≡ true → AllFit words → length words ≤ room
    → read_all room (retyped (aligners_text words)) ≡ Ok (map element_of_word words)
unfolding all_known aligners_text read_from
retyped_read [] room k f h = refl
retyped_read (w ∷ ws) room k f h =
    let b = both (is_known w) (all_known ws) k in
    let fits = f.0 in
    let rest = retyped (aligners_text ws) in
    ap (read_all room) (word_retyped w (aligners_text ws))
    ∙ read_count room (suc (length_in w)) (length_in w) (omega arith) false (letter_of (code_in w) ∷ rest)
    ∙ read_letter room true (length_in w) (letter_of (code_in w)) rest (omega arith) (omega arith) b.0
    ∙ ap (before (element_of_word w)) (retyped_read ws (room - 1) b.1 f.1 (omega arith))

all_sound : (es : List Element) → AllWordable es → AllSound es
all_sound [] h = tt
all_sound (x ∷ es) h = let s = h.0.small in (record { small = omega arith; lettered = h.0.lettered }, all_sound es h.1)

-- words that were read into tables, and then written as text from there
pub retyped_written : (words : List ℕ) (c l : ℕ) {es : List Element} (counts : List ℤ) (letters : List ℕ) (room : ℕ) → AllFit words
    → read_words words c l ≡ Ok es
    → writing (length es) (counts_after counts (Ok es)) (letters_after letters (Ok es)) room
    ≡ text_of room (read_all most_segments (retyped (aligners_text words)))
unfolding writing
retyped_written words c l {es} counts letters room f e =
    let r = read_says words c l e in
    let few = r.few in
    let long : length es ≡ length words = ap length (sym r.is) ∙ length-map words element_of_word in
    let sound = all_sound es (subst AllWordable r.is (elements_wordable words r.known f)) in
    let text = retyped_read words most_segments r.known f few ∙ ap Ok r.is in
    rw (le-ltb most_segments (length es) (omega arith)) (ap (text_of room) (given_back es counts letters sound ∙ sym text))
