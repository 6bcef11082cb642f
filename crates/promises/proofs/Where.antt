-- Where a base stands among records whose CIGARs were read: in one of them, or between two neighbours; and which numbers its element, and what follows that, then have. Assumes nothing.
use Prim.Native.Nat.{ℕ, ◌+◌, ◌-◌, ◌≤◌, ◌<◌}
use native.Mathlib.Omega.{arith}
use mathlib.Core.Bool.{Bool}
use mathlib.Core.List.{List, [], ◌∷◌, ◌++◌, map, append_assoc}
use mathlib.Core.Path.{◌≡◌, refl, sym, ap, ◌∙◌}
use lib.Dec.{ltb}
use lib.ListN.{get_or, length, length-append}
use lib.Seq.{get_or-append_seam}
use borrow.Author.Tests.{ltb-true, ltb-false}
use Rattle.whole.specs.laws.Whole.{by_test}
use Rattle.cigar.specs.Elements.{Element, genome, total}
use Rattle.segments.specs.Exons.{last_number}
use Rattle.segments.specs.laws.Totals.{total_append}
use Rattle.segments.specs.laws.Made.{nowhere}
use Rattle.transcript.specs.Building.{Exon, gap, parts_of, elements_after, elements_of, numbered_by, numbers_of, first_start}
use Rattle.judging.specs.laws.Accepted.{InOrder}
use Rattle.promises.specs.Bases.{Lies}
use Rattle.promises.proofs.Records.{Spans, lead, lead_after, of_lead, parts_total, gap_genome, lead_span, last_end}
use Rattle.promises.proofs.Numbers.{record_number}

-- ---- the element that a place lies in

-- it stands past xs where the place does
past : (xs ys before : List Element) (x : Element) (after : List Element) (at : ℕ) → xs ++ ys ≡ before ++ x ∷ after → at < genome x → total genome xs ≤ total genome before + at → length xs ≤ length before
unfolding total
past [] ys before x after at e within h = omega arith
past (y ∷ xs) ys [] x after at e within h = let same : y ≡ x = cc in absurd (omega (arith, ap genome same))
past (y ∷ xs) ys (z ∷ before) x after at e within h =
    let same : y ≡ z = cc in
    let rest : xs ++ ys ≡ before ++ x ∷ after = cc in
    omega (arith, past xs ys before x after at rest within (omega (arith, ap genome same)))

-- and within xs where the place does
within_of : (xs ys before : List Element) (x : Element) (after : List Element) (at : ℕ) → xs ++ ys ≡ before ++ x ∷ after → total genome before + at < total genome xs → length before < length xs
unfolding total
within_of [] ys before x after at e h = absurd (omega arith)
within_of (y ∷ xs) ys [] x after at e h = omega arith
within_of (y ∷ xs) ys (z ∷ before) x after at e h =
    let same : y ≡ z = cc in
    let rest : xs ++ ys ≡ before ++ x ∷ after = cc in
    omega (arith, within_of xs ys before x after at rest (omega (arith, ap genome same)))

-- two fronts of one list that are as long are one
same_front : (xs : List Element) (g : Element) (ys before : List Element) (x : Element) (after : List Element) → xs ++ g ∷ ys ≡ before ++ x ∷ after → length before ≡ length xs → xs ≡ before
same_front [] g ys [] x after e h = refl
same_front [] g ys (z ∷ before) x after e h = absurd (omega arith)
same_front (y ∷ xs) g ys [] x after e h = absurd (omega arith)
same_front (y ∷ xs) g ys (z ∷ before) x after e h =
    let same : y ≡ z = cc in
    let rest : xs ++ g ∷ ys ≡ before ++ x ∷ after = cc in
    rw (same, same_front xs g ys before x after rest (omega arith))

-- ---- the numbers

-- the number of element i of records, or what stands behind the last
abbrev pub number_at : Bool → List Exon → ℕ → ℕ
number_at forward rs i = get_or (numbers_of forward rs) i (last_number forward (length rs))

-- a record's elements span its bounds
span_of : (left : List Exon) (r : Exon) (rs : List Exon) → Spans (left ++ r ∷ rs) → r.alt_start + total genome r.parts ≡ r.alt_end
span_of [] r rs (span, spans) = span
span_of (a ∷ left) r rs (span, spans) = span_of left r rs spans

-- and no record starts before the first
pub starts_from : (forward : Bool) (left : List Exon) (r : Exon) (right : List Exon) → Spans (left ++ r ∷ right) → InOrder 0 (left ++ r ∷ right) → first_start (left ++ r ∷ right) ≤ r.alt_start
starts_from forward left r right spans order = omega (arith, lead_span forward 0 left r right spans order)

-- of a base in a record: the number of its element, and of what follows that
pub in_record : (forward : Bool) (left : List Exon) (r : Exon) (right : List Exon) → Spans (left ++ r ∷ right) → InOrder 0 (left ++ r ∷ right)
    → (p : ℕ) (own : Lies (elements_of forward (left ++ r ∷ right)) p) → r.alt_start ≤ p + first_start (left ++ r ∷ right) → p + first_start (left ++ r ∷ right) < r.alt_end
    → (number_at forward (left ++ r ∷ right) (length own.before) ≡ numbered_by forward (length left) (length right))
    × (number_at forward (left ++ r ∷ right) (length own.before + 1) ≡ numbered_by forward (length left) (length right))
unfolding elements_of
in_record forward left r right spans order p own from to =
    let before_it = lead forward left r in
    let parts = parts_of forward r in
    let rest = elements_after forward r.alt_end right in
    let stands : before_it ++ (parts ++ rest) ≡ own.before ++ own.element ∷ own.after = sym (of_lead forward left r right) ∙ own.stands in
    let starts = lead_span forward 0 left r right spans order in
    let low = past before_it (parts ++ rest) own.before own.element own.after own.at stands own.within (omega (arith, starts, own.place)) in
    let high = within_of (before_it ++ parts) rest own.before own.element own.after own.at (append_assoc before_it parts rest ∙ stands)
    (omega (arith, starts, own.place, total_append genome before_it parts, parts_total genome forward r, span_of left r right spans)) in
    let k = length own.before - length before_it in
    let here : length own.before ≡ length before_it + k = omega arith in
    let next : length own.before + 1 ≡ length before_it + (k + 1) = omega arith in
    let inside : k + 1 ≤ length parts = omega (arith, length-append before_it parts) in
    (rw here (record_number forward left r right k (omega arith)), rw next (record_number forward left r right (k + 1) inside))

-- ---- between two neighbours

-- what stands before the right one is what stands before the left one, the left one's elements, and the gap
after_next : (forward : Bool) (e : ℕ) (bs : List Exon) (a b : Exon) → lead_after forward e (bs ++ a ∷ []) b ≡ lead_after forward e bs a ++ (parts_of forward a ++ (gap a.alt_end b ∷ []))
unfolding lead_after
after_next forward e [] a b = refl
after_next forward e (c ∷ bs) a b = rw (after_next forward c.alt_end bs a b, append_assoc (parts_of forward c) (lead_after forward c.alt_end bs a) (parts_of forward a ++ (gap a.alt_end b ∷ [])))

lead_next : (forward : Bool) (left : List Exon) (a b : Exon) → lead forward (left ++ a ∷ []) b ≡ lead forward left a ++ (parts_of forward a ++ (gap a.alt_end b ∷ []))
unfolding lead lead_after
lead_next forward [] a b = refl
lead_next forward (c ∷ bs) a b = rw (after_next forward c.alt_end bs a b, append_assoc (parts_of forward c) (lead_after forward c.alt_end bs a) (parts_of forward a ++ (gap a.alt_end b ∷ [])))

module _ (forward : Bool) (left : List Exon) (a b : Exon) (right : List Exon) where
  abbrev all : List Exon
  all = left ++ a ∷ b ∷ right

  -- what stands before the gap
  abbrev ahead : List Element
  ahead = lead forward left a ++ parts_of forward a

  abbrev beyond_gap : List Element
  beyond_gap = parts_of forward b ++ elements_after forward b.alt_end right

  elements_are : elements_of forward all ≡ ahead ++ gap a.alt_end b ∷ beyond_gap
  unfolding elements_of elements_after
  elements_are = of_lead forward left a (b ∷ right) ∙ sym (append_assoc (lead forward left a) (parts_of forward a) (gap a.alt_end b ∷ beyond_gap))

  module _ (spans : Spans all) (order : InOrder 0 all) (p : ℕ) (own : Lies (elements_of forward all) p) (from : a.alt_end ≤ p + first_start all) (to : p + first_start all < b.alt_start) where
    ahead_ends : first_start all + total genome ahead ≡ a.alt_end
    ahead_ends = omega (arith, lead_span forward 0 left a (b ∷ right) spans order, total_append genome (lead forward left a) (parts_of forward a), parts_total genome forward a, span_of left a (b ∷ right) spans)

    -- the base's element is the gap
    index_is : length own.before ≡ length ahead
    unfolding total
    index_is =
        let g = gap a.alt_end b in
        let stands : ahead ++ g ∷ beyond_gap ≡ own.before ++ own.element ∷ own.after = sym elements_are ∙ own.stands in
        let low = past ahead (g ∷ beyond_gap) own.before own.element own.after own.at stands own.within (omega (arith, ahead_ends, own.place)) in
        let high = within_of (ahead ++ g ∷ []) beyond_gap own.before own.element own.after own.at (append_assoc ahead (g ∷ []) beyond_gap ∙ stands)
        (omega (arith, ahead_ends, own.place, total_append genome ahead (g ∷ []), gap_genome a.alt_end b)) in
        omega (arith, length-append ahead (g ∷ []))

    -- which begins where the left one ends
    pub begins : first_start all + total genome own.before ≡ a.alt_end
    begins =
        let stands : ahead ++ gap a.alt_end b ∷ beyond_gap ≡ own.before ++ own.element ∷ own.after = sym elements_are ∙ own.stands in
        rw (← same_front ahead (gap a.alt_end b) beyond_gap own.before own.element own.after stands index_is) ahead_ends

    pub is_gap : own.element ≡ gap a.alt_end b
    is_gap =
        sym (get_or-append_seam own.before own.element own.after nowhere)
        ∙ ap (λ (es : List Element). get_or es (length own.before) nowhere) (sym own.stands ∙ elements_are)
        ∙ ap (λ (k : ℕ). get_or (ahead ++ gap a.alt_end b ∷ beyond_gap) k nowhere) index_is
        ∙ get_or-append_seam ahead (gap a.alt_end b) beyond_gap nowhere

    -- it has the left one's number, and what follows it the right one's
    pub between : (number_at forward all (length own.before) ≡ numbered_by forward (length left) (length right + 1)) × (number_at forward all (length own.before + 1) ≡ numbered_by forward (length left + 1) (length right))
    between =
        let here : length own.before ≡ length (lead forward left a) + length (parts_of forward a) = index_is ∙ length-append (lead forward left a) (parts_of forward a) in
        let next : length own.before + 1 ≡ length (lead forward (left ++ a ∷ []) b) + 0 = rw (lead_next forward left a b) (omega (arith, here, length-append (lead forward left a) (parts_of forward a ++ (gap a.alt_end b ∷ [])), length-append (parts_of forward a) (gap a.alt_end b ∷ []))) in
        let one_more : length right + 1 ≡ length (b ∷ right) = omega arith in
        let two : length left + 1 ≡ length (left ++ a ∷ []) = omega (arith, length-append left (a ∷ [])) in (
          rw (here, one_more) (record_number forward left a (b ∷ right) (length (parts_of forward a)) (omega arith)),
          rw (next, two, ← append_assoc left (a ∷ []) (b ∷ right)) (record_number forward (left ++ a ∷ []) b right 0 (omega arith)),
        )

-- ---- finding

-- the place z of the genome lies in one of the records of a list, whose bounds `f` tells, or between two neighbours
pub data Found {A : Type 0} (f : A → Exon) (z : ℕ) (rs : List A) : Type 0 where
  in_one : (left : List A) (r : A) (right : List A) → rs ≡ left ++ r ∷ right → (f r).alt_start ≤ z → z < (f r).alt_end → Found f z rs
  amid : (left : List A) (a b : A) (right : List A) → rs ≡ left ++ a ∷ b ∷ right → (f a).alt_end ≤ z → z < (f b).alt_start → Found f z rs

pub find : {A : Type 0} (f : A → Exon) (z : ℕ) (left : List A) (r : A) (rs all : List A) → all ≡ left ++ r ∷ rs → (f r).alt_start ≤ z → z < last_end (f r).alt_end (map f rs) → Found f z all
find f z left r [] all is from to = in_one left r [] is from to
find f z left r (q ∷ qs) all is from to =
    by_test (ltb z (f r).alt_end)
    (λ t. in_one left r (q ∷ qs) is from (ltb-true z (f r).alt_end t))
    (λ t.
    by_test (ltb z (f q).alt_start)
    (λ u. amid left r q qs is (ltb-false z (f r).alt_end t) (ltb-true z (f q).alt_start u))
    (λ u. find f z (left ++ r ∷ []) q qs all (is ∙ sym (append_assoc left (r ∷ []) (q ∷ qs))) (ltb-false z (f q).alt_start u) to))

-- a base lies before the end of the last record
after_end : (forward : Bool) (e : ℕ) (rs : List Exon) → Spans rs → InOrder e rs → e + total genome (elements_after forward e rs) ≡ last_end e rs
unfolding total elements_after
after_end forward e [] spans order = omega arith
after_end forward e (r ∷ rs) (span, spans) (starts, order) =
    omega (arith, gap_genome e r, total_append genome (parts_of forward r) (elements_after forward r.alt_end rs), parts_total genome forward r, after_end forward r.alt_end rs spans order)

pub below_end : (forward : Bool) (r : Exon) (rs : List Exon) → Spans (r ∷ rs) → InOrder 0 (r ∷ rs) → (p : ℕ) → Lies (elements_of forward (r ∷ rs)) p → p + r.alt_start < last_end r.alt_end rs
unfolding total elements_of
below_end forward r rs (span, spans) (starts, order) p own =
    let parts = parts_of forward r in
    let rest = elements_after forward r.alt_end rs in
    omega (arith, ap (total genome) own.stands, total_append genome own.before (own.element ∷ own.after), own.within, own.place, total_append genome parts rest, parts_total genome forward r, after_end forward r.alt_end rs spans order)
