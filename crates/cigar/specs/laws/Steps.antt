-- A whole text is read element by element: what a reader with a cursor goes by.
--     goes_on    a text reads as the element that `step_at` finds, and then as the rest from the place after it
--     moves      that place lies further on, and not past the text's end
--     takes, none_refused, all_taken    what a step finds in a text that is not refused
-- Assumes nothing.
use Rattle.std.specs.Prelude.{◌≡◌, refl, Bool, true, false, List, [], ◌∷◌, ℕ, ◌+◌, ◌*◌, ◌-◌, ◌≤◌, ◌<◌, ltb, eqb, length, drop, if◌then◌else◌, Some, None}
use Rattle.std.proofs.Common.{sym, ap, subst, ◌∙◌, arith, length-drop, drop-drop}
use Rattle.std.proofs.lemmas.Bool.{eqb-false}
use Rattle.whole.specs.laws.Whole.{by_test}
use Rattle.refusals.specs.Numbers.{most_count}
use Rattle.refusals.specs.declared.Refusal.{Refusal}
use Rattle.refusals.specs.declared.Refusal.TheVariants.{NoElement, BadCount, TooMuch}
use Rattle.refusals.specs.Outcome.{Ok, Err, Answered}
use Rattle.cigar.specs.declared.Step.{Step}
use Rattle.cigar.specs.Elements.{Element, is_letter}
use Rattle.cigar.specs.Text.{Finding, step, is_digit, count_of, element_from, step_of, step_at, Reading, before, element, read_from, read_all, elements_in}

-- what a step of a text says of the whole
abbrev pub go_on : ℕ → List ℕ → Finding → Reading
go_on room text (Ok (Some s)) =
    if eqb room 0 then Err TooMuch else before (element s.count s.letter) (read_all (room - 1) (drop s.next text))
go_on room text (Err k) = Err k
go_on room text (Ok None) = Ok []

-- a test that picks the step picks what it says of the whole
picked : (room : ℕ) (text : List ℕ) (t : Bool) {x y : Reading} (p q : Finding) → x ≡ go_on room text p → y ≡ go_on room text q
    → (if t then x else y) ≡ go_on room text (if t then p else q)
picked room text true p q hx hy = hx
picked room text false p q hx hy = hy

-- one byte further on
next_drop : (text : List ℕ) (at b : ℕ) (s : List ℕ) → drop at text ≡ b ∷ s → drop (at + 1) text ≡ s
next_drop text at b s e = sym (drop-drop 1 at text) ∙ ap (drop 1) e

-- the byte at `at`, where what follows a digit is known
byte_goes_on : (room : ℕ) (text : List ℕ) (given : Bool) (n at b : ℕ) (s : List ℕ) → drop at text ≡ b ∷ s
    → read_from room true (n * 10 + (b - 48)) s ≡ go_on room text (element_from true (n * 10 + (b - 48)) (at + 1) s)
    → read_from room given n (b ∷ s) ≡ go_on room text (element_from given n at (b ∷ s))
unfolding read_from element_from
byte_goes_on room text given n at b s e more =
    picked room text (is_digit b) _ _ more
    (picked room text (is_letter b) _ (Err NoElement)
    (picked room text (ltb most_count (count_of given n)) (Err BadCount) (Ok (Some (step (count_of given n) b (at + 1)))) refl
    (ap (λ (r : List ℕ). if eqb room 0 then Err TooMuch else before (element (count_of given n) b) (read_from (room - 1) false 0 r)) (sym (next_drop text at b s e))))
    refl)

-- after a digit
digit_goes_on : (room : ℕ) (s text : List ℕ) (n at : ℕ) → drop at text ≡ s → read_from room true n s ≡ go_on room text (element_from true n at s)
unfolding read_from element_from
digit_goes_on room [] text n at e = refl
digit_goes_on room (b ∷ s) text n at e =
    byte_goes_on room text true n at b s e (digit_goes_on room s text (n * 10 + (b - 48)) (at + 1) (next_drop text at b s e))

pub goes_on : (room : ℕ) (text : List ℕ) (at : ℕ) → read_all room (drop at text) ≡ go_on room text (step_at text at)
unfolding read_from step_of
goes_on room text at = go (drop at text) refl
  where
    go : (s : List ℕ) → drop at text ≡ s → read_from room false 0 s ≡ go_on room text (step_of at s)
    go [] e = refl
    go (b ∷ s) e = byte_goes_on room text false 0 at b s e (digit_goes_on room s text _ (at + 1) (next_drop text at b s e))

-- the place after an element, where there is one, is after `at` and at most `end`
abbrev pub Moves : ℕ → ℕ → Finding → Type 0
Moves at end (Ok (Some s)) = (at < s.next) × (s.next ≤ end)
Moves at end (Err k) = Unit
Moves at end (Ok None) = Unit

picked_moves : (at end : ℕ) (t : Bool) (p q : Finding) → Moves at end p → Moves at end q → Moves at end (if t then p else q)
picked_moves at end true p q hp hq = hp
picked_moves at end false p q hp hq = hq

moves_wider : (at end : ℕ) (p : Finding) → Moves (at + 1) end p → Moves at end p
moves_wider at end (Ok (Some s)) h = (omega arith, h.1)
moves_wider at end (Err k) h = h
moves_wider at end (Ok None) h = h

element_moves : (s : List ℕ) (given : Bool) (n at end : ℕ) → at + length s ≤ end → Moves at end (element_from given n at s)
unfolding element_from
element_moves [] given n at end h = tt
element_moves (b ∷ s) given n at end h =
    picked_moves at end (is_digit b) _ _
    (moves_wider at end (element_from true (n * 10 + (b - 48)) (at + 1) s) (element_moves s true (n * 10 + (b - 48)) (at + 1) end (omega arith)))
    (picked_moves at end (is_letter b) _ (Err NoElement)
    (picked_moves at end (ltb most_count (count_of given n)) (Err BadCount) (Ok (Some (step (count_of given n) b (at + 1)))) tt (omega arith))
    tt)

pub moves : (text : List ℕ) (at : ℕ) → at ≤ length text → Moves at (length text) (step_at text at)
unfolding step_of
moves text at h = go (drop at text) (length-drop at text)
  where
    go : (s : List ℕ) → length s ≡ length text - at → Moves at (length text) (step_of at s)
    go [] e = tt
    go (b ∷ s) e = element_moves (b ∷ s) false 0 at (length text) (omega arith)

pub answered_before : (x : Element) (r : Reading) → Answered (before x r) → Answered r × (elements_in (before x r) ≡ x ∷ elements_in r)
answered_before x (Ok es) h = (tt, refl)
answered_before x (Err k) h = absurd h

-- the element that a step finds in a text that is not refused: there is room for it, and what follows it is not refused
pub record Takes (room : ℕ) (text : List ℕ) (at : ℕ) (s : Step) : Type 0 where
  pub some_room : 0 < room
  pub answered : Answered (read_all (room - 1) (drop s.next text))
  pub is : elements_in (read_all room (drop at text)) ≡ element s.count s.letter ∷ elements_in (read_all (room - 1) (drop s.next text))

module _ (room : ℕ) (text : List ℕ) (at : ℕ) (h : Answered (read_all room (drop at text))) where
  pub takes : {s : Step} → step_at text at ≡ Ok (Some s) → Takes room text at s
  takes {s} e =
      let is : read_all room (drop at text) ≡ go_on room text (Ok (Some s)) = goes_on room text at ∙ ap (go_on room text) e in
      by_test (eqb room 0) (λ z. absurd (subst Answered (rw z at is) h))
      (λ z.
      let rest = read_all (room - 1) (drop s.next text) in
      let found : read_all room (drop at text) ≡ before (element s.count s.letter) rest = rw z at is in
      let more = answered_before (element s.count s.letter) rest (subst Answered found h) in
      let ne = eqb-false room 0 z in
      record { some_room = omega arith; answered = more.0; is = ap elements_in found ∙ more.1 })

  pub none_refused : {k : Refusal} → step_at text at ≡ Err k → ⊥
  none_refused e = subst Answered (goes_on room text at ∙ ap (go_on room text) e) h

  pub all_taken : step_at text at ≡ Ok None → elements_in (read_all room (drop at text)) ≡ []
  all_taken e = ap elements_in (goes_on room text at ∙ ap (go_on room text) e)
