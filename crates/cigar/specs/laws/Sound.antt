-- Elements that can be read and written: counts up to the largest, and letters of the six. What a text reads as is such elements, no more of them than there was room for.
--     read_sound, read_room    of a text that is read
--     step_sound               of the element that a step finds
-- Assumes nothing.
use Rattle.std.specs.Prelude.{◌≡◌, Bool, true, false, List, [], ◌∷◌, ℕ, ◌+◌, ◌-◌, ◌*◌, ◌≤◌, ltb, eqb, length, drop, Some, None}
use Rattle.std.proofs.Common.{subst, arith, ltb-false}
use Rattle.std.proofs.lemmas.Bool.{eqb-false}
use Rattle.whole.specs.laws.Whole.{by_test}
use Rattle.refusals.specs.Numbers.{most_count}
use Rattle.refusals.specs.Outcome.{Ok, Err}
use Rattle.cigar.specs.declared.Step.{Step}
use Rattle.cigar.specs.Elements.{Element, is_letter}
use Rattle.cigar.specs.Text.{Finding, is_digit, count_of, element_from, step_of, step_at, Reading, before, element, taken, read_from, read_all}

pub record Sound (x : Element) : Type 0 where
  pub small : x.count ≤ most_count
  pub lettered : is_letter x.letter ≡ true

abbrev pub AllSound : List Element → Type 0
AllSound [] = Unit
AllSound (x ∷ xs) = Sound x × AllSound xs

-- sound elements, for which there was room
abbrev Good : ℕ → Reading → Type 0
Good room (Ok es) = AllSound es × (length es ≤ room)
Good room (Err k) = Unit

good_before : (room : ℕ) (x : Element) (r : Reading) → Sound x → (room ≡ 0 → ⊥) → Good (room - 1) r → Good room (before x r)
good_before room x (Ok es) s h g = ((s, g.0), omega arith)
good_before room x (Err k) s h g = tt

good_taken : (room n letter : ℕ) (r : Reading) → is_letter letter ≡ true → Good (room - 1) r → Good room (taken room (element n letter) r)
good_taken room n letter r l g =
    by_test (ltb most_count n) (λ e. rw e tt)
    (λ e.
    by_test (eqb room 0) (λ z. rw (e, z) tt)
    (λ z. rw (e, z) (good_before room (element n letter) r (record { small = ltb-false most_count n e; lettered = l }) (eqb-false room 0 z) g)))

good_read : (s : List ℕ) (room : ℕ) (given : Bool) (n : ℕ) → Good room (read_from room given n s)
unfolding read_from
good_read [] room true n = tt
good_read [] room false n = (tt, omega arith)
good_read (b ∷ s) room given n =
    by_test (is_digit b) (λ d. rw d (good_read s room true (n * 10 + (b - 48))))
    (λ d.
    by_test (is_letter b) (λ l. rw (d, l) (good_taken room (count_of given n) b (read_from (room - 1) false 0 s) l (good_read s (room - 1) false 0)))
    (λ l. rw (d, l) tt))

module _ (room : ℕ) (text : List ℕ) {es : List Element} (e : read_all room text ≡ Ok es) where
  good : AllSound es × (length es ≤ room)
  good = subst (Good room) e (good_read text room false 0)

  pub read_sound : AllSound es
  read_sound = good.0

  pub read_room : length es ≤ room
  read_room = good.1

-- the element of a step is sound
abbrev Fine : Finding → Type 0
Fine (Ok (Some s)) = Sound (element s.count s.letter)
Fine (Err k) = Unit
Fine (Ok None) = Unit

fine_element : (s : List ℕ) (given : Bool) (n at : ℕ) → Fine (element_from given n at s)
unfolding element_from
fine_element [] given n at = tt
fine_element (b ∷ s) given n at =
    by_test (is_digit b) (λ d. rw d (fine_element s true (n * 10 + (b - 48)) (at + 1)))
    (λ d.
    by_test (is_letter b)
    (λ l.
    by_test (ltb most_count (count_of given n)) (λ e. rw (d, l, e) tt)
    (λ e. rw (d, l, e) (record { small = ltb-false most_count (count_of given n) e; lettered = l })))
    (λ l. rw (d, l) tt))

pub step_sound : (text : List ℕ) (at : ℕ) {s : Step} → step_at text at ≡ Ok (Some s) → Sound (element s.count s.letter)
unfolding step_of
step_sound text at e = subst Fine e (go (drop at text))
  where
    go : (s : List ℕ) → Fine (step_of at s)
    go [] = tt
    go (b ∷ s) = fine_element (b ∷ s) false 0 at
