-- Laws of CIGAR text that the proofs of several functions use.
--     saturated       a count above the largest is as good as any other
--     starts, nothing a place inside the text begins an element, and one past its end does not
--     digit_step      the byte at a place is a digit
--     letter_step     it is a letter, which ends the element
--     other_step      it is neither
--     cut_off         the text ends inside an element
-- Assumes nothing.
use Rattle.refusals.specs.Outcome.{Err, Ok}
use Rattle.std.specs.Prelude.{if◌then◌else◌, None}
use mathlib.Core.Path.{◌≡◌, refl, ap₂}
use mathlib.Core.Bool.{Bool, true, false}
use mathlib.Core.List.{List, [], ◌∷◌}
use Prim.Native.Nat.{ℕ, ◌+◌, ◌*◌, ◌-◌, ◌≤◌, ◌<◌, min}
use native.Mathlib.Nat.{min-eq_left}
use native.Mathlib.Decide.{dec_le}
use native.Mathlib.Numerals.{add-one}
use native.Mathlib.Omega.{arith}
use lib.ListN.{length, get_or, drop, drop_of_length-le}
use lib.Seq.{drop-cons}
use borrow.Author.Tests.{lt-ltb}
use Rattle.refusals.specs.Numbers.{most_count}
use Rattle.refusals.specs.declared.Refusal.TheVariants.{NoElement}
use Rattle.cigar.specs.Elements.{is_letter}
use Rattle.cigar.specs.Text.{is_digit, count_of, finished, element_from, step_of, step_at, Finding}

-- two counts above the largest one are refused alike, whatever follows
saturated : (n m : ℕ) → most_count + 1 ≤ n → most_count + 1 ≤ m → (at : ℕ) (s : List ℕ) → element_from true n at s ≡ element_from true m at s
unfolding element_from
saturated n m hn hm at [] = refl
saturated n m hn hm at (b ∷ s) =
    ap₂ (λ (x y : Finding). if is_digit b then x else if is_letter b then y else Err NoElement)
    (saturated (n * 10 + (b - 48)) (m * 10 + (b - 48)) (omega arith) (omega arith) (at + 1) s)
    (rw (lt-ltb most_count n hn, lt-ltb most_count m hm))

pub capped : (n at : ℕ) (s : List ℕ) → element_from true (min n (most_count + 1)) at s ≡ element_from true n at s
capped n at s =
    elim (dec_le n (most_count + 1)) [ yes h ↦ rw (min-eq_left h) | no h ↦ saturated (min n (most_count + 1)) n (omega arith) (omega arith) at s ]

module _ (text : List ℕ) (given : Bool) (n i : ℕ) (inside : i < length text) where
  pub digit_step : is_digit (get_or text i 0) ≡ true
      → element_from given n i (drop i text) ≡ element_from true (n * 10 + (get_or text i 0 - 48)) (i + 1) (drop (i + 1) text)
  unfolding element_from
  digit_step e = rw (drop-cons text i 0 inside, e, add-one i)

  pub letter_step : is_digit (get_or text i 0) ≡ false → is_letter (get_or text i 0) ≡ true
      → element_from given n i (drop i text) ≡ finished (count_of given n) (get_or text i 0) (i + 1)
  unfolding element_from
  letter_step e l = rw (drop-cons text i 0 inside, e, l)

  pub other_step : is_digit (get_or text i 0) ≡ false → is_letter (get_or text i 0) ≡ false → element_from given n i (drop i text) ≡ Err NoElement
  unfolding element_from
  other_step e l = rw (drop-cons text i 0 inside, e, l)

pub cut_off : (text : List ℕ) (given : Bool) (n i : ℕ) → length text ≤ i → element_from given n i (drop i text) ≡ Err NoElement
unfolding element_from
cut_off text given n i h = rw (drop_of_length-le text h)

pub starts : (text : List ℕ) (at : ℕ) → at < length text → step_at text at ≡ element_from false 0 at (drop at text)
unfolding step_of
starts text at inside = rw (drop-cons text at 0 inside)

pub nothing : (text : List ℕ) (at : ℕ) → length text ≤ at → step_at text at ≡ Ok None
unfolding step_of
nothing text at h = rw (drop_of_length-le text h)
