-- The exon numbers of what records make: there is one for each element, and in tables they hold (`numbers_hold_lem`): they run along the genome from the first record's to the last's, and step just after the gaps. Assumes nothing.
use Rattle.std.specs.Prelude.{ℕ, zero, suc, ◌+◌, ◌<◌, Bool, ◌≡◌, eqb, get_or, length, replicate}
use Rattle.std.proofs.Math.Numerals.{add-one}
use native.Mathlib.Omega.{arith}
use Rattle.std.proofs.Math.Bool.{true, false}
use mathlib.Core.List.{List, [], ◌∷◌, ◌++◌}
use Rattle.std.proofs.Math.Path.{refl}
use Rattle.std.proofs.Common.{sym, ap, ◌∙◌, length-append, eq-eqb}
use Rattle.std.proofs.lemmas.List.{length-replicate}
use Rattle.whole.specs.laws.Whole.{by_test, both_of}
use Rattle.cigar.specs.Elements.{Element, letter_n}
use Rattle.cigar.specs.Read.{letters_of}
use Rattle.segments.specs.Tables.{padded}
use Rattle.segments.specs.Exons.{first_number, last_number, number_at, goes_on, goes_on_at, numbers_hold}
use Rattle.segments.specs.laws.Made.{padded_at}
use Rattle.segments.specs.laws.Exons.{read_number, read_padded}
use Rattle.segments.specs.laws.Meaning.{all_of}
use Rattle.transcript.specs.Building.{Exon, parts_of, elements_after, elements_of, numbered_by, numbers_after, numbers_of}

-- ---- one number an element

after_length : (forward : Bool) (before e : ℕ) (rs : List Exon) → length (numbers_after forward before rs) ≡ length (elements_after forward e rs)
unfolding numbers_after elements_after
after_length forward before e [] = refl
after_length forward before e (r ∷ rs) =
    let ps = parts_of forward r in
    let own = numbered_by forward (before + 1) (length rs) in
    omega (
      arith,
      length-append (replicate (length ps) own) (numbers_after forward (before + 1) rs),
      length-replicate (length ps) own,
      length-append ps (elements_after forward r.alt_end rs),
      after_length forward (before + 1) r.alt_end rs,
    )

pub numbers_length : (forward : Bool) (rs : List Exon) → length (numbers_of forward rs) ≡ length (elements_of forward rs)
unfolding numbers_of elements_of
numbers_length forward [] = refl
numbers_length forward (r ∷ rs) =
    let ps = parts_of forward r in
    let own = numbered_by forward 0 (length rs) in
    omega (
      arith,
      length-append (replicate (length ps) own) (numbers_after forward 0 rs),
      length-replicate (length ps) own,
      length-append ps (elements_after forward r.alt_end rs),
      after_length forward 0 r.alt_end rs,
    )

-- ---- they go on, element by element

module _ (forward : Bool) where
  stays : (c k m : ℕ) → k ≡ m → goes_on forward c k m ≡ true
  unfolding goes_on
  stays c k m e = rw (eq-eqb k m e)

-- across a gap
steps : (forward : Bool) (before after : ℕ) → goes_on forward letter_n (numbered_by forward before (after + 1)) (numbered_by forward (before + 1) after) ≡ true
unfolding goes_on
steps true before after =
    by_test (eqb (before + 1) (before + 1 + 1))
    (λ t. rw t)
    (λ t. rw (t, eq-eqb (before + 1 + 1) (before + 1 + 1) refl))
steps false before after =
    by_test (eqb (after + 1 + 1) (after + 1))
    (λ t. rw t)
    (λ t. rw (t, eq-eqb (after + 1 + 1) (after + 1 + 1) refl))

module _ (forward : Bool) (behind : ℕ) where
  -- the numbers of elements go on, from each to the next and to what stands behind the last
  abbrev Going : List Element → List ℕ → Type 0
  Going [] ks = Unit {0}
  Going (x ∷ xs) [] = ⊥
  Going (x ∷ xs) (k ∷ ks) = (goes_on forward x.letter k (get_or ks 0 behind) ≡ true) × Going xs ks

  -- a record's elements have one number, which is also the next
  front : (n own : ℕ) (ks : List ℕ) → get_or ks 0 behind ≡ own → get_or (replicate n own ++ ks) 0 behind ≡ own
  front zero own ks h = h
  front (suc n) own ks h = refl

  run : (ps : List Element) (own : ℕ) (es : List Element) (ks : List ℕ) → get_or ks 0 behind ≡ own → Going es ks → Going (ps ++ es) (replicate (length ps) own ++ ks)
  run [] own es ks h g = g
  run (p ∷ ps) own es ks h g = (stays forward p.letter own _ (sym (front (length ps) own ks h)), run ps own es ks h g)

  -- at an index
  going_at : (es : List Element) (ks : List ℕ) → Going es ks → (i : ℕ) → i < length es → goes_on forward (get_or (letters_of es) i 0) (get_or ks i behind) (get_or ks (suc i) behind) ≡ true
  going_at [] ks g i h = absurd (omega arith)
  going_at (x ∷ xs) [] g i h = absurd g
  going_at (x ∷ xs) (k ∷ ks) g zero h = g.0
  going_at (x ∷ xs) (k ∷ ks) g (suc i) h = going_at xs ks g.1 i (omega arith)

-- ---- the numbers of records, where there are so many in all

module _ (forward : Bool) (all : ℕ) where
  -- the numbers after a record begin with its own
  after_front : (before : ℕ) (rs : List Exon) → before + 1 + length rs ≡ all → get_or (numbers_after forward before rs) 0 (last_number forward all) ≡ numbered_by forward before (length rs)
  unfolding numbers_after
  after_front before [] e = last forward
    where
      last : (f : Bool) → last_number f all ≡ numbered_by f before 0
      last true = omega arith
      last false = refl
  after_front before (r ∷ rs) e = refl

  after_going : (before e : ℕ) (rs : List Exon) → before + 1 + length rs ≡ all → Going forward (last_number forward all) (elements_after forward e rs) (numbers_after forward before rs)
  unfolding numbers_after elements_after
  after_going before e [] h = tt
  after_going before e (r ∷ rs) h =
      let ps = parts_of forward r in
      let own = numbered_by forward (before + 1) (length rs) in
      let ks = numbers_after forward (before + 1) rs in
      let next = after_front (before + 1) rs (omega arith) in (
        rw (front forward (last_number forward all) (length ps) own ks next, ← add-one (length rs)) (steps forward before (length rs)),
        run forward (last_number forward all) ps own (elements_after forward r.alt_end rs) ks next (after_going (before + 1) r.alt_end rs (omega arith)),
      )

module _ (forward : Bool) (r : Exon) (rs : List Exon) where
  abbrev all : ℕ
  all = length (r ∷ rs)

  abbrev own : ℕ
  own = numbered_by forward 0 (length rs)

  all_going : Going forward (last_number forward all) (elements_of forward (r ∷ rs)) (numbers_of forward (r ∷ rs))
  unfolding numbers_of elements_of
  all_going =
      run forward (last_number forward all) (parts_of forward r) own (elements_after forward r.alt_end rs) (numbers_after forward 0 rs)
      (after_front forward all 0 rs (omega arith))
      (after_going forward all 0 r.alt_end rs (omega arith))

  all_front : get_or (numbers_of forward (r ∷ rs)) 0 (last_number forward all) ≡ first_number forward all
  unfolding numbers_of
  all_front = front forward (last_number forward all) (length (parts_of forward r)) own (numbers_after forward 0 rs) (after_front forward all 0 rs (omega arith)) ∙ first forward
    where
      first : (f : Bool) → numbered_by f 0 (length rs) ≡ first_number f all
      first true = refl
      first false = omega arith

-- ---- in tables

-- what stands at an index, and behind the last, of a table that holds the numbers ks and 0 from there on
number_is : (m : ℕ) (ks : List ℕ) (n behind i : ℕ) → length ks ≡ n → number_at (padded m ks) n behind i ≡ get_or ks i behind
number_is m ks n behind i e = rw (← e) (sym (read_number (padded m ks) (length ks) behind i) ∙ ap (λ (l : List ℕ). get_or l i behind) (read_padded m ks))

-- the numbers and letters of any records hold, in tables of any size
pub numbers_hold_lem : (forward : Bool) (rs : List Exon) (l m : ℕ) → 0 < length rs
    → numbers_hold forward (length rs) (padded l (letters_of (elements_of forward rs))) (padded m (numbers_of forward rs)) (length (elements_of forward rs)) ≡ true
unfolding numbers_hold
numbers_hold_lem forward [] l m some = absurd (omega arith)
numbers_hold_lem forward (r ∷ rs) l m some =
    let es = elements_of forward (r ∷ rs) in
    let ks = numbers_of forward (r ∷ rs) in
    let n = length es in
    let behind = last_number forward (length (r ∷ rs)) in
    let long = numbers_length forward (r ∷ rs) in
    both_of
    (eq-eqb _ _ (number_is m ks n behind 0 long ∙ all_front forward r rs))
    (all_of (goes_on_at forward (padded l (letters_of es)) (number_at (padded m ks) n behind)) n
    (λ i below. rw (padded_at l (letters_of es) i, number_is m ks n behind i long, number_is m ks n behind (i + 1) long, add-one i) (going_at forward behind es ks (all_going forward r rs) i below)))
