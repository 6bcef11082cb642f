-- The elements at the front of two tables are judged, measured and written one by one.
--     left_all, left_more, left_none    what is left of the tables
--     size_more, size_refused           how many more bytes it takes
--     judged_answered                   what it is, where it is not refused
--     sized                             what a size says of the elements
--     many_written, .., text_written    what is written, by the tests in their order
-- Assumes nothing.
use mathlib.Core.Path.{◌≡◌, refl, sym, ap, ◌∙◌}
use mathlib.Core.Bool.{false}
use mathlib.Core.List.{List, [], ◌∷◌}
use Prim.Native.Nat.{ℕ, suc, ◌+◌, ◌-◌, ◌≤◌, ◌<◌}
use native.Mathlib.Nat.{add-zero}
use native.Mathlib.Omega.{arith}
use lib.IntN.{ℤ, pos, nat_abs}
use lib.ListN.{length, get_or, length-append}
use lib.Signed.{lt_z}
use borrow.Author.Tests.{lt-ltb, le-ltb}
use Rattle.whole.specs.laws.Whole.{by_test}
use Rattle.refusals.specs.Numbers.{most_segments, most_text}
use Rattle.refusals.specs.declared.Refusal.{Refusal}
use Rattle.refusals.specs.declared.Refusal.TheVariants.{TooMuch, NoRoom}
use Rattle.refusals.specs.Outcome.{Ok, Err, Answered, Outcome}
use Rattle.refusals.specs.laws.Outcomes.{clash, same}
use Rattle.cigar.specs.Elements.{Element, is_letter}
use Rattle.cigar.specs.Text.{Reading, before, element, elements_in}
use Rattle.cigar.specs.laws.Steps.{answered_before}
use Rattle.spelling.specs.Write.{element_text, elements_text, judged, elements_given, given_from, fitted, text_of, writing, size_of}

-- the elements from place i on
abbrev pub left_of : List ℤ → List ℕ → ℕ → ℕ → Reading
left_of counts letters number i = given_from counts letters i (number - i)

pub left_all : (counts : List ℤ) (letters : List ℕ) (number : ℕ) → elements_given counts letters number ≡ left_of counts letters number 0
left_all counts letters number = ap (given_from counts letters 0) {x = number} {y = number - 0} (omega arith)

module _ (counts : List ℤ) (letters : List ℕ) (number i : ℕ) where
  pub left_more : i < number → left_of counts letters number i ≡ judged (get_or counts i (pos 0)) (get_or letters i 0) (left_of counts letters number (i + 1))
  unfolding given_from
  left_more h =
      let one : number - i ≡ suc (number - (i + 1)) = omega arith in
      rw one

  pub left_none : number ≤ i → left_of counts letters number i ≡ Ok []
  unfolding given_from
  left_none h =
      let none : number - i ≡ 0 = omega arith in
      rw none

-- n bytes, and then those of a reading's text
abbrev pub size_from : ℕ → Reading → Outcome ℕ
size_from n (Ok es) = Ok (n + length (elements_text es))
size_from n (Err k) = Err k

pub size_all : (r : Reading) → size_of r ≡ size_from 0 r
size_all (Ok es) = ap Ok {x = length (elements_text es)} {y = 0 + length (elements_text es)} (omega arith)
size_all (Err k) = refl

pub size_none : (n : ℕ) → size_from n (Ok []) ≡ Ok n
unfolding elements_text
size_none n = ap Ok (add-zero n)

size_before : (n : ℕ) (x : Element) (r : Reading) → size_from n (before x r) ≡ size_from (n + length (element_text x.count x.letter)) r
unfolding elements_text
size_before n x (Ok es) =
    let both = length-append (element_text x.count x.letter) (elements_text es) in
    ap {A = ℕ} Ok (omega arith)
size_before n x (Err k) = refl

-- the text of one element
pub alone_long : (n letter : ℕ) → length (elements_text (element n letter ∷ [])) ≡ length (element_text n letter)
unfolding elements_text
alone_long n letter = length-append (element_text n letter) [] ∙ add-zero (length (element_text n letter))

module _ (n : ℕ) (z : ℤ) (letter : ℕ) (r : Reading) where
  pub size_more : {m : ℕ} → size_of (judged z letter (Ok [])) ≡ Ok m → size_from n (judged z letter r) ≡ size_from (n + m) r
  size_more {m} e =
      by_test (is_letter letter)
      (λ l.
      by_test (lt_z z (pos 0)) (λ b. absurd (clash (rw (l, b) at e)))
      (λ b.
      let long : length (element_text (nat_abs z) letter) ≡ m = sym (alone_long (nat_abs z) letter) ∙ same (rw (l, b) at e) in
      rw (l, b) (size_before n (element (nat_abs z) letter) r ∙ ap (λ (k : ℕ). size_from (n + k) r) long)))
      (λ l. absurd (clash (rw l at e)))

  pub size_refused : {k : Refusal} → size_of (judged z letter (Ok [])) ≡ Err k → size_from n (judged z letter r) ≡ Err k
  size_refused {k} e =
      by_test (is_letter letter)
      (λ l. by_test (lt_z z (pos 0)) (λ b. rw (l, b) (rw (l, b) at e)) (λ b. absurd (clash (sym (rw (l, b) at e)))))
      (λ l. rw l (rw l at e))

-- an element that was not refused, before those that follow
pub record Judged (z : ℤ) (letter : ℕ) (r : Reading) : Type 0 where
  pub whole : lt_z z (pos 0) ≡ false
  pub rest : Answered r
  pub is : elements_in (judged z letter r) ≡ element (nat_abs z) letter ∷ elements_in r

pub judged_answered : (z : ℤ) (letter : ℕ) (r : Reading) → Answered (judged z letter r) → Judged z letter r
judged_answered z letter r h =
    by_test (is_letter letter)
    (λ l.
    by_test (lt_z z (pos 0)) (λ b. absurd (rw (l, b) at h))
    (λ b.
    let more = answered_before (element (nat_abs z) letter) r (rw (l, b) at h) in
    record { whole = b; rest = more.0; is = rw (l, b) more.1 }))
    (λ l. absurd (rw l at h))

-- elements that have a size are not refused
pub record Sized (r : Reading) (size : ℕ) : Type 0 where
  pub granted : Answered r
  pub is : r ≡ Ok (elements_in r)
  pub long : size ≡ length (elements_text (elements_in r))

pub sized : (r : Reading) {size : ℕ} → size_of r ≡ Ok size → Sized r size
sized (Ok es) e = record { granted = tt; is = refl; long = sym (same e) }
sized (Err k) e = absurd (clash e)

refusal_is : (r : Reading) {k : Refusal} → size_of r ≡ Err k → r ≡ Err k
refusal_is (Ok es) e = absurd (clash (sym e))
refusal_is (Err j) {k} e = let one : j ≡ k = cc in ap Err one

module _ (number : ℕ) (counts : List ℤ) (letters : List ℕ) (room : ℕ) where
  abbrev all : Reading
  all = elements_given counts letters number

  pub many_written : most_segments < number → writing number counts letters room ≡ Err TooMuch
  unfolding writing
  many_written h = rw (lt-ltb most_segments number h)

  few_written : number ≤ most_segments → writing number counts letters room ≡ text_of room all
  unfolding writing
  few_written h = rw (le-ltb most_segments number h)

  pub refused_written : {k : Refusal} → number ≤ most_segments → size_of all ≡ Err k → writing number counts letters room ≡ Err k
  refused_written h e = few_written h ∙ ap (text_of room) (refusal_is all e)

  module _ {size : ℕ} (few : number ≤ most_segments) (e : size_of all ≡ Ok size) where
    fits_written : writing number counts letters room ≡ fitted most_text room (elements_text (elements_in all))
    fits_written = few_written few ∙ ap (text_of room) (sized all e).is

    pub large_written : most_text < size → writing number counts letters room ≡ Err TooMuch
    large_written h = fits_written ∙ rw (lt-ltb most_text (length (elements_text (elements_in all))) (omega (arith, (sized all e).long)))

    pub full_written : size ≤ most_text → room < size → writing number counts letters room ≡ Err NoRoom
    full_written h k =
        fits_written
        ∙ rw (
          le-ltb most_text (length (elements_text (elements_in all))) (omega (arith, (sized all e).long)),
          lt-ltb room (length (elements_text (elements_in all))) (omega (arith, (sized all e).long)),
        )

    pub text_written : size ≤ most_text → size ≤ room → writing number counts letters room ≡ Ok (elements_text (elements_in all))
    text_written h k =
        fits_written
        ∙ rw (
          le-ltb most_text (length (elements_text (elements_in all))) (omega (arith, (sized all e).long)),
          le-ltb room (length (elements_text (elements_in all))) (omega (arith, (sized all e).long)),
        )
