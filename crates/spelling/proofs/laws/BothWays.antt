-- Reading into tables and writing from tables undo each other.
--     given_back    elements at the front of two tables are those that are given for writing
--     read_write    what was read into tables is written, into any buffer that has room for it
--     write_read    what was written from any two tables reads as what they gave
-- Assumes nothing.
use Rattle.std.specs.Prelude.{◌≡◌, refl, false, List, [], ◌∷◌, ◌++◌, ltb, ℤ, pos, negsuc, nat_abs, length, get_or, drop}
use Rattle.std.proofs.Common.{ap, ◌∙◌, true≢false, arith, length-append, SFits, le-ltb, ltb-false}
use Prim.Native.Nat.{ℕ, zero, suc, ◌+◌, ◌≤◌}
use Rattle.std.proofs.Math.Seq.{append_snoc}
use Rattle.std.proofs.lemmas.List.{get_or_at}
use Rattle.std.specs.Int.Signed.{lt_z}
use Rattle.std.specs.Int.{w32}
use Rattle.whole.specs.laws.Whole.{by_test}
use Rattle.refusals.specs.Numbers.{most_count, most_segments, most_text}
use Rattle.refusals.specs.Outcome.{Ok, Err}
use Rattle.refusals.specs.laws.Outcomes.{clash, same}
use Rattle.cigar.specs.Elements.{Element, is_letter}
use Rattle.cigar.specs.Text.{Reading, before, element, read_all}
use Rattle.cigar.specs.laws.Sound.{Sound, AllSound, read_sound, read_room}
use Rattle.cigar.specs.Lent.{at_front}
use Rattle.cigar.specs.Read.{read_text, counts_of, letters_of}
use Rattle.spelling.specs.Write.{elements_text, given_from, elements_given, text_of, writing}
use Rattle.spelling.proofs.laws.RoundTrip.{read_back, shorter}

-- elements that stand after some others in both tables
given_after : (es : List Element) (cs : List ℤ) (ls : List ℕ) (counts : List ℤ) (letters : List ℕ) (i : ℕ) → length cs ≡ i → length ls ≡ i → AllSound es
    → given_from (cs ++ (counts_of es ++ counts)) (ls ++ (letters_of es ++ letters)) i (length es) ≡ Ok es
unfolding given_from
given_after [] cs ls counts letters i p q h = refl
given_after (x ∷ es) cs ls counts letters i p q h =
    let n = pos x.count in
    let next =
    given_after es (cs ++ n ∷ []) (ls ++ x.letter ∷ []) counts letters (i + 1)
    (length-append cs (n ∷ []) ∙ ap (λ (k : ℕ). k + 1) p)
    (length-append ls (x.letter ∷ []) ∙ ap (λ (k : ℕ). k + 1) q)
    h.1 in
    let rest = rw (append_snoc cs n (counts_of es ++ counts), append_snoc ls x.letter (letters_of es ++ letters)) at next in
    rw (get_or_at cs n (counts_of es ++ counts) (pos 0) i p, get_or_at ls x.letter (letters_of es ++ letters) 0 i q, h.0.lettered, le-ltb x.count 0 (omega arith))
    (ap (before x) rest)

pub given_back : (es : List Element) (counts : List ℤ) (letters : List ℕ) → AllSound es
    → elements_given (at_front (counts_of es) counts) (at_front (letters_of es) letters) (length es) ≡ Ok es
given_back es counts letters h = given_after es [] [] (drop (length (counts_of es)) counts) (drop (length (letters_of es)) letters) 0 refl refl h

-- a text that was read has no more bytes than a text may have
alone : (text : List ℕ) {es : List Element} → read_text text ≡ Ok es → (length text ≤ most_text) × (read_all most_segments text ≡ Ok es)
unfolding read_text
alone text {es} e =
    by_test (ltb most_text (length text)) (λ t. absurd (clash (rw t at e))) (λ t. (ltb-false most_text (length text) t, rw t at e))

pub read_write : (text : List ℕ) {es : List Element} (counts : List ℤ) (letters : List ℕ) (room : ℕ) → read_text text ≡ Ok es → length (elements_text es) ≤ room
    → writing (length es) (at_front (counts_of es) counts) (at_front (letters_of es) letters) room ≡ Ok (elements_text es)
unfolding writing
read_write text {es} counts letters room e h =
    let r = alone text e in
    let few = read_room most_segments text r.1 in
    let small = shorter most_segments text r.1 in
    rw (le-ltb most_segments (length es) few, given_back es counts letters (read_sound most_segments text r.1))
    (rw (le-ltb most_text (length (elements_text es)) (omega arith), le-ltb room (length (elements_text es)) h) refl)

-- m sound elements, where there is no refusal
abbrev Given : ℕ → Reading → Type 0
Given m (Ok es) = AllSound es × (length es ≡ m)
Given m (Err k) = Unit

given_before : (m : ℕ) (x : Element) (r : Reading) → Sound x → Given m r → Given (suc m) (before x r)
given_before m x (Ok es) s g = ((s, g.0), omega arith)
given_before m x (Err k) s g = tt

count_small : (z : ℤ) → lt_z z (pos 0) ≡ false → SFits w32 z → nat_abs z ≤ most_count
count_small (pos n) h f = omega (arith, f.sfits)
count_small (negsuc n) h f = absurd (true≢false h)

module _ (counts : List ℤ) (letters : List ℕ) (fit : (i : ℕ) → SFits w32 (get_or counts i (pos 0))) where
  given_sound : (m i : ℕ) → Given m (given_from counts letters i m)
  unfolding given_from
  given_sound zero i = (tt, refl)
  given_sound (suc m) i =
      by_test (is_letter (get_or letters i 0))
      (λ l.
      by_test (lt_z (get_or counts i (pos 0)) (pos 0)) (λ b. rw (l, b) tt)
      (λ b.
      rw (l, b)
      (given_before m (element (nat_abs (get_or counts i (pos 0))) (get_or letters i 0)) (given_from counts letters (i + 1) m)
      (record { small = count_small (get_or counts i (pos 0)) b (fit i); lettered = l }) (given_sound m (i + 1)))))
      (λ l. rw l tt)

  pub write_read : (number room : ℕ) {text : List ℕ} → writing number counts letters room ≡ Ok text → read_text text ≡ elements_given counts letters number
  unfolding writing read_text
  write_read number room {text} e =
      by_test (ltb most_segments number) (λ t. absurd (clash (rw t at e)))
      (λ t. go (elements_given counts letters number) (given_sound number 0) (ltb-false most_segments number t) (rw t at e))
    where
      go : (r : Reading) → Given number r → number ≤ most_segments → text_of room r ≡ Ok text → read_text text ≡ r
      go (Ok es) g few p =
          by_test (ltb most_text (length (elements_text es))) (λ t. absurd (clash (rw t at p)))
          (λ t.
          by_test (ltb room (length (elements_text es))) (λ u. absurd (clash (rw (t, u) at p)))
          (λ u. rw (← same (rw (t, u) at p), t) (read_back most_segments es g.0 (omega arith))))
      go (Err k) g few p = absurd (clash p)
