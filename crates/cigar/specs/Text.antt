-- CIGAR text: what one element reads as, and what a whole text reads as, with room for a number of segments. Assumes nothing.
use Rattle.std.specs.Prelude.{ℕ, ◌+◌, ◌-◌, ◌*◌, List, [], ◌∷◌, Bool, true, false, ◌&&◌, drop, length, leb, ltb, eqb, Option, Some, None, if◌then◌else◌}
use Rattle.refusals.specs.Numbers.{most_count}
use Rattle.refusals.specs.declared.Refusal.TheVariants.{NoElement, BadCount, TooMuch}
use Rattle.refusals.specs.Outcome.{Outcome, Ok, Err, through}
use Rattle.cigar.specs.Elements.{Element, is_letter}
use Rattle.cigar.specs.declared.Step.{Step}

-- what is found at a place of a text: an element with the place after it, its 7 or 8, or nothing at the end
abbrev pub Finding : Type 0
Finding = Outcome (Option Step)

-- an element's count and letter, and the place after it
abbrev pub step : ℕ → ℕ → ℕ → Step
step n letter next = record { count = n; letter = letter; next = next }

-- a decimal digit
abbrev pub is_digit : ℕ → Bool
is_digit b = leb 48 b && leb b 57

-- no digits means 1
abbrev pub count_of : Bool → ℕ → ℕ
count_of given n = if given then n else 1

-- a finished element: 8 where its count is above the largest
abbrev pub finished : ℕ → ℕ → ℕ → Finding
finished n letter next = if ltb most_count n then Err BadCount else Ok (Some (step n letter next))

-- The rest of an element, whose next byte stands at `at`. Its digits so far are worth n, and `given` says whether there were any.
unfoldable pub element_from : Bool → ℕ → ℕ → List ℕ → Finding
element_from given n at [] = Err NoElement
element_from given n at (b ∷ s) =
    let further : Finding = element_from true (n * 10 + (b - 48)) (at + 1) s in
    if is_digit b then further
    else if is_letter b then finished (count_of given n) b (at + 1)
    else Err NoElement

-- the element that begins at `at`, or the text's end
unfoldable pub step_of : ℕ → List ℕ → Finding
step_of at [] = Ok None
step_of at (b ∷ s) = element_from false 0 at (b ∷ s)

abbrev pub step_at : List ℕ → ℕ → Finding
step_at text at = step_of at (drop at text)

-- what a whole text reads as: its elements, or the number of its refusal
abbrev pub Reading : Type 0
Reading = Outcome (List Element)

-- one element more in front
abbrev pub before : Element → Reading → Reading
before e = through (λ (es : List Element). e ∷ es)

-- an element of a count and a letter
abbrev pub element : ℕ → ℕ → Element
element n letter = record { count = n; letter = letter }

-- A finished element: 8 where its count is above the largest, 3 where there is no room for a segment more, and else it stands before what follows.
abbrev pub taken : ℕ → Element → Reading → Reading
taken room e rest =
    if ltb most_count e.count then Err BadCount
    else if eqb room 0 then Err TooMuch
    else before e rest

-- The rest of a text, inside an element or between two, with room for that many segments. The digits so far are worth n, and `given` says whether there were any.
unfoldable pub read_from : ℕ → Bool → ℕ → List ℕ → Reading
read_from room given n [] = if given then Err NoElement else Ok []
read_from room given n (b ∷ s) =
    let further : Reading = read_from room true (n * 10 + (b - 48)) s in
    let whole : Reading = taken room (element (count_of given n) b) (read_from (room - 1) false 0 s) in
    if is_digit b then further
    else if is_letter b then whole
    else Err NoElement

abbrev pub read_all : ℕ → List ℕ → Reading
read_all room text = read_from room false 0 text

-- the elements of a reading, none where it refuses
abbrev pub elements_in : Reading → List Element
elements_in (Ok es) = es
elements_in (Err k) = []

-- how many elements there are
abbrev pub counted_of : Reading → Outcome ℕ
counted_of (Ok es) = Ok (length es)
counted_of (Err k) = Err k
