-- Elements and their words, there and back: a length and a code are the two parts of a number divided by 16, and the two tables of letters are each other's inverse.
--     element_back      an element of the six letters whose count fits in 28 bits has a word of 32 bits, and comes back equal from it
--     word_back         a word whose code is one of the six comes back equal from its element, whose count fits in 28 bits
--     elements_back, words_back    the same for lists
--     read_write        words that were read into tables are written again, into any memory that has room for them
--     write_read        words that were written from any two tables read as the elements that the tables hold
-- Assumes nothing.
use Rattle.std.specs.Prelude.{◌≡◌, refl, true, false, List, [], ◌∷◌, ◌++◌, map, ℕ, zero, suc, ◌+◌, ◌≤◌, ◌<◌, ◌^◌, min, ltb, eqb, ℤ, pos, negsuc, nat_abs, length, get_or, drop}
use Rattle.std.proofs.Common.{sym, ap, ap₂, subst, ◌∙◌, true≢false, arith, length-append, eqb-true, le-ltb, ltb-false}
use Rattle.std.proofs.lemmas.Bool.{false≢true}
use Rattle.std.proofs.Math.Nat.{min-eq_left}
use Rattle.std.proofs.lemmas.List.{length-map, get_or_at}
use Rattle.std.proofs.Math.Seq.{append_snoc}
use Rattle.std.specs.Int.Signed.{lt_z}
use Rattle.whole.specs.laws.Whole.{by_test, both}
use Rattle.refusals.specs.Numbers.{most_word_count, most_segments}
use Rattle.refusals.specs.declared.Refusal.TheVariants.{NoElement}
use Rattle.refusals.specs.Outcome.{Ok, Err, no_fault}
use Rattle.refusals.specs.laws.Outcomes.{clash, same, passed}
use Rattle.cigar.specs.Elements.{Element, is_letter, letter_equal, letter_d, letter_i, letter_m, letter_n, letter_x}
use Rattle.cigar.specs.Text.{element}
use Rattle.cigar.specs.Lent.{at_front}
use Rattle.cigar.specs.Read.{counts_of, letters_of}
use Rattle.words.specs.Words.{letter_of, code_of, length_in, code_in, element_of_word, word_of, is_known, all_known, read_words, fault_of, fault_from, elements_at, write_words}

-- ---- one element, one word

-- what holds of each of the six letters holds of every letter
by_letter : (P : ℕ → Type 0) → P letter_equal → P letter_d → P letter_i → P letter_m → P letter_n → P letter_x → (b : ℕ) → is_letter b ≡ true → P b
unfolding is_letter
by_letter P equal d i m n x b h =
    by_test (eqb b letter_equal) (λ e. is letter_equal e equal)
    (λ e1.
    by_test (eqb b letter_d) (λ e. is letter_d e d)
    (λ e2.
    by_test (eqb b letter_i) (λ e. is letter_i e i)
    (λ e3.
    by_test (eqb b letter_m) (λ e. is letter_m e m)
    (λ e4.
    by_test (eqb b letter_n) (λ e. is letter_n e n)
    (λ e5. by_test (eqb b letter_x) (λ e. is letter_x e x) (λ e6. absurd (false≢true (rw (e1, e2, e3, e4, e5, e6) at h))))))))
  where
    is : (letter : ℕ) → eqb b letter ≡ true → P letter → P b
    is letter e p = subst P (sym (eqb-true b letter e)) p

letter_back : (letter : ℕ) → is_letter letter ≡ true → letter_of (code_of letter) ≡ letter
unfolding letter_of code_of
letter_back = by_letter (λ b. letter_of (code_of b) ≡ b) refl refl refl refl refl refl

-- 4, 5 and 6 are S, H and P, and codes from 9 on have no letter
code_back : (k : ℕ) → is_letter (letter_of k) ≡ true → code_of (letter_of k) ≡ k
unfolding is_letter letter_of code_of
code_back zero h = refl
code_back (suc zero) h = refl
code_back (suc (suc zero)) h = refl
code_back (suc (suc (suc zero))) h = refl
code_back (suc (suc (suc (suc zero)))) h = absurd (false≢true h)
code_back (suc (suc (suc (suc (suc zero))))) h = absurd (false≢true h)
code_back (suc (suc (suc (suc (suc (suc zero)))))) h = absurd (false≢true h)
code_back (suc (suc (suc (suc (suc (suc (suc zero))))))) h = refl
code_back (suc (suc (suc (suc (suc (suc (suc (suc zero)))))))) h = refl
code_back (suc (suc (suc (suc (suc (suc (suc (suc (suc k))))))))) h = absurd (false≢true h)

pub code_small : (letter : ℕ) → is_letter letter ≡ true → code_of letter ≤ 8
unfolding code_of
code_small = by_letter (λ b. code_of b ≤ 8) (omega arith) (omega arith) (omega arith) (omega arith) (omega arith) (omega arith)

-- an element that a word can hold
pub record Wordable (x : Element) : Type 0 where
  pub lettered : is_letter x.letter ≡ true
  pub small : x.count ≤ most_word_count

abbrev pub AllWordable : List Element → Type 0
AllWordable [] = Unit
AllWordable (x ∷ es) = Wordable x × AllWordable es

-- an element of two tables that a word can hold
pub record Held (z : ℤ) (letter : ℕ) : Type 0 where
  pub whole : lt_z z (pos 0) ≡ false
  pub wordable : Wordable (element (nat_abs z) letter)

size_small : (z : ℤ) → lt_z z (pos 0) ≡ false → lt_z (pos most_word_count) z ≡ false → nat_abs z ≤ most_word_count
size_small (pos n) h k = omega (arith, ltb-false)
size_small (negsuc n) h k = absurd (true≢false h)

-- a word of 32 bits whose code has a letter
pub record Known (word : ℕ) : Type 0 where
  pub fits : word < 2 ^ 32
  pub known : is_known word ≡ true

code_of_word : (x : Element) → Wordable x → code_in (word_of x) ≡ code_of x.letter
code_of_word x h = let s = code_small x.letter h.lettered in omega arith

pub word_known : (x : Element) → Wordable x → Known (word_of x)
word_known x h =
    let s = code_small x.letter h.lettered in
    let l = h.small in
    record { fits = omega arith; known = ap (λ (k : ℕ). is_letter (letter_of k)) (code_of_word x h) ∙ ap is_letter (letter_back x.letter h.lettered) ∙ h.lettered }

pub element_back : (x : Element) → Wordable x → element_of_word (word_of x) ≡ x
element_back x h =
    let s = code_small x.letter h.lettered in
    let count : length_in (word_of x) ≡ x.count = omega arith in
    ap₂ element count (ap letter_of (code_of_word x h) ∙ letter_back x.letter h.lettered)

pub element_wordable : (word : ℕ) → Known word → Wordable (element_of_word word)
element_wordable word h = let f = h.fits in record { lettered = h.known; small = omega arith }

pub word_back : (word : ℕ) → is_known word ≡ true → word_of (element_of_word word) ≡ word
word_back word h = let code = code_back (code_in word) h in omega arith

-- ---- lists

pub elements_back : (es : List Element) → AllWordable es → map element_of_word (map word_of es) ≡ es
elements_back [] h = refl
elements_back (x ∷ es) h = ap₂ (λ (y : Element) (ys : List Element). y ∷ ys) (element_back x h.0) (elements_back es h.1)

pub words_back : (ws : List ℕ) → all_known ws ≡ true → map word_of (map element_of_word ws) ≡ ws
unfolding all_known
words_back [] h = refl
words_back (w ∷ ws) h =
    let b = both (is_known w) (all_known ws) h in
    ap₂ (λ (v : ℕ) (vs : List ℕ). v ∷ vs) (word_back w b.0) (words_back ws b.1)

words_known : (es : List Element) → AllWordable es → all_known (map word_of es) ≡ true
unfolding all_known
words_known [] h = refl
words_known (x ∷ es) h = rw (word_known x h.0).known (words_known es h.1)

-- all words of a list have 32 bits
abbrev pub AllFit : List ℕ → Type 0
AllFit [] = Unit
AllFit (w ∷ ws) = (w < 2 ^ 32) × AllFit ws

pub elements_wordable : (ws : List ℕ) → all_known ws ≡ true → AllFit ws → AllWordable (map element_of_word ws)
unfolding all_known
elements_wordable [] h f = tt
elements_wordable (w ∷ ws) h f =
    let b = both (is_known w) (all_known ws) h in
    (element_wordable w (record { fits = f.0; known = b.0 }), elements_wordable ws b.1 f.1)

-- ---- tables

-- a letter that is not of the six is 7, whatever the count
pub fault_letter : (z : ℤ) (letter : ℕ) → is_letter letter ≡ false → fault_of z letter ≡ Err NoElement
unfolding fault_of
fault_letter z letter l = rw l

-- an element of the tables that is not refused
pub fault_none : (z : ℤ) (letter : ℕ) → fault_of z letter ≡ no_fault → Held z letter
unfolding fault_of
fault_none z letter h =
    by_test (is_letter letter)
    (λ l.
    by_test (lt_z z (pos 0)) (λ b. absurd (clash (rw (l, b) at h)))
    (λ b.
    by_test (lt_z (pos most_word_count) z) (λ s. absurd (clash (rw (l, b, s) at h)))
    (λ s. record { whole = b; wordable = record { lettered = l; small = size_small z b s } })))
    (λ l. absurd (clash (rw l at h)))

-- an element that a word can hold is not refused
held_no_fault : (x : Element) → Wordable x → fault_of (pos x.count) x.letter ≡ no_fault
unfolding fault_of
held_no_fault x h = rw (h.lettered, le-ltb x.count 0 (omega arith), le-ltb most_word_count x.count h.small)

-- the first place of those that are not refused
pub fault_first : (counts : List ℤ) (letters : List ℕ) (i m : ℕ) → fault_from counts letters i (suc m) ≡ no_fault
    → (fault_of (get_or counts i (pos 0)) (get_or letters i 0) ≡ no_fault) × (fault_from counts letters (i + 1) m ≡ no_fault)
unfolding fault_from
fault_first counts letters i m h = passed (fault_of (get_or counts i (pos 0)) (get_or letters i 0)) (fault_from counts letters (i + 1) m) tt h

from_wordable : (counts : List ℤ) (letters : List ℕ) (m i : ℕ) → fault_from counts letters i m ≡ no_fault → AllWordable (elements_at counts letters i m)
unfolding elements_at
from_wordable counts letters zero i h = tt
from_wordable counts letters (suc m) i h =
    let f = fault_first counts letters i m h in
    ((fault_none (get_or counts i (pos 0)) (get_or letters i 0) f.0).wordable, from_wordable counts letters m (i + 1) f.1)

pub from_length : (counts : List ℤ) (letters : List ℕ) (m i : ℕ) → length (elements_at counts letters i m) ≡ m
unfolding elements_at
from_length counts letters zero i = refl
from_length counts letters (suc m) i = ap suc (from_length counts letters m (i + 1))

-- elements that stand after some others in both tables: none is refused, and they are those that the tables hold
after_others : (es : List Element) (cs : List ℤ) (ls : List ℕ) (counts : List ℤ) (letters : List ℕ) (i : ℕ) → length cs ≡ i → length ls ≡ i → AllWordable es
    → (fault_from (cs ++ (counts_of es ++ counts)) (ls ++ (letters_of es ++ letters)) i (length es) ≡ no_fault)
    × (elements_at (cs ++ (counts_of es ++ counts)) (ls ++ (letters_of es ++ letters)) i (length es) ≡ es)
unfolding fault_from elements_at
after_others [] cs ls counts letters i p q h = (refl, refl)
after_others (x ∷ es) cs ls counts letters i p q h =
    let n = pos x.count in
    let next =
    after_others es (cs ++ n ∷ []) (ls ++ x.letter ∷ []) counts letters (i + 1)
    (length-append cs (n ∷ []) ∙ ap (λ (k : ℕ). k + 1) p)
    (length-append ls (x.letter ∷ []) ∙ ap (λ (k : ℕ). k + 1) q)
    h.1 in
    let rest = rw (append_snoc cs n (counts_of es ++ counts), append_snoc ls x.letter (letters_of es ++ letters)) at next in
    rw (get_or_at cs n (counts_of es ++ counts) (pos 0) i p, get_or_at ls x.letter (letters_of es ++ letters) 0 i q, held_no_fault x h.0)
    (rest.0, ap (λ (ys : List Element). x ∷ ys) rest.1)

-- what holds of words that were read
pub record WereRead (words : List ℕ) (es : List Element) : Type 0 where
  pub known : all_known words ≡ true
  pub few : length words ≤ most_segments
  pub is : map element_of_word words ≡ es

pub read_says : (words : List ℕ) (c l : ℕ) {es : List Element} → read_words words c l ≡ Ok es → WereRead words es
unfolding read_words
read_says words c l {es} e =
    by_test (all_known words)
    (λ k.
    by_test (ltb most_segments (length words)) (λ m. absurd (clash (rw (k, m) at e)))
    (λ m.
    by_test (ltb c (length words)) (λ r. absurd (clash (rw (k, m, r) at e)))
    (λ r.
    by_test (ltb l (length words)) (λ s. absurd (clash (rw (k, m, r, s) at e)))
    (λ s. record { known = k; few = ltb-false most_segments (length words) m; is = same (rw (k, m, r, s) at e) }))))
    (λ k. absurd (clash (rw k at e)))

pub read_write : (words : List ℕ) (c l : ℕ) {es : List Element} (counts : List ℤ) (letters : List ℕ) (room : ℕ) → AllFit words
    → read_words words c l ≡ Ok es → length words ≤ room
    → write_words (length words) (at_front (counts_of es) counts) (at_front (letters_of es) letters) room ≡ Ok words
unfolding write_words
read_write words c l {es} counts letters room f e h =
    let r = read_says words c l e in
    let long : length es ≡ length words = ap length (sym r.is) ∙ length-map words element_of_word in
    let held =
    after_others es [] [] (drop (length (counts_of es)) counts) (drop (length (letters_of es)) letters) 0 refl refl
    (subst AllWordable r.is (elements_wordable words r.known f)) in
    let here = rw long at held in
    rw (min-eq_left r.few, here.0, le-ltb most_segments (length words) r.few, le-ltb room (length words) h, here.1)
    (ap Ok (ap (map word_of) (sym r.is) ∙ words_back words r.known))

-- what holds of words that were written
record WereWritten (number : ℕ) (counts : List ℤ) (letters : List ℕ) (words : List ℕ) : Type 0 where
  few : number ≤ most_segments
  held : fault_from counts letters 0 number ≡ no_fault
  is : map word_of (elements_at counts letters 0 number) ≡ words

write_says : (number : ℕ) (counts : List ℤ) (letters : List ℕ) (room : ℕ) {words : List ℕ} → write_words number counts letters room ≡ Ok words
    → WereWritten number counts letters words
unfolding write_words
write_says number counts letters room {words} e =
    let p = passed (fault_from counts letters 0 (min number most_segments)) _ words e in
    by_test (ltb most_segments number) (λ m. absurd (clash (rw m at p.1)))
    (λ m.
    by_test (ltb room number) (λ r. absurd (clash (rw (m, r) at p.1)))
    (λ r.
    let few = ltb-false most_segments number m in
    record { few = few; held = rw (min-eq_left few) at p.0; is = same (rw (m, r) at p.1) }))

pub write_read : (number : ℕ) (counts : List ℤ) (letters : List ℕ) (room c l : ℕ) {words : List ℕ} → write_words number counts letters room ≡ Ok words
    → number ≤ c → number ≤ l → read_words words c l ≡ Ok (elements_at counts letters 0 number)
unfolding read_words
write_read number counts letters room c l {words} e hc hl =
    let w = write_says number counts letters room e in
    let es = elements_at counts letters 0 number in
    let good = from_wordable counts letters number 0 w.held in
    let few = w.few in
    let long : length (map word_of es) ≡ number = length-map es word_of ∙ from_length counts letters number 0 in
    rw (← w.is, words_known es good, long, le-ltb most_segments number few, le-ltb c number hc, le-ltb l number hl)
    (ap Ok (elements_back es good))
