-- A place and its segment: where it lies in it, its spot as an interval's end, and the segment's number. Assumes nothing.
use Rattle.std.specs.Prelude.{ℕ, zero, suc, ◌+◌, ◌≤◌, ◌<◌, Bool, false, List, [], ◌∷◌, ◌≡◌, refl, ltb, ℤ, pos, ◌+ℤ◌, ◌-ℤ◌, get_or, length}
use Rattle.std.proofs.Common.{add-one, arith, ap, ltb-true, ltb-false}
use Rattle.whole.specs.laws.Whole.{order, sum, dif, by_test}
use Rattle.cigar.specs.Elements.{Element, Side, Kind, total}
use Rattle.cigar.specs.Elements.Kind.{matches, inserts, deletes, skips}
use Rattle.cigar.specs.Read.{letters_of}
use Rattle.finding.specs.Finding.{ends_above, index_of}
use Rattle.finding.specs.laws.Index.{Found, index_says}
use Rattle.segments.specs.Tables.{entries_of}
use Rattle.segments.specs.Places.{Segment, segment_at, End, unsurely, left_nearer, nearer, spot_in, spot_of, stop_of, map_by_tables, map_place}
use Rattle.segments.specs.Places.End.{start, stop}
use Rattle.segments.specs.laws.Made.{entry_first, entry_total}

-- a place k of the elements lies in the segment i
pub record Inside (side : Side) (es : List Element) (k i : ℕ) : Type 0 where
  pub below : i < length es
  pub begun : get_or (entries_of side es) i 0 ≤ k
  pub goes_on : k < get_or (entries_of side es) (i + 1) 0

some_elements : (side : Side) (es : List Element) (k : ℕ) → k < total side es → 0 < length es
unfolding total
some_elements side [] k h = absurd (omega arith)
some_elements side (x ∷ xs) k h = omega arith

pub inside : (side : Side) (es : List Element) (k : ℕ) → k < total side es → Inside side es k (index_of (entries_of side es) (length es) (pos k))
inside side es k h = go _ (index_says from (length es) (pos k) (some_elements side es k h))
  where
    from : List ℕ
    from = entries_of side es

    begun_at : (i : ℕ) → ((j : ℕ) → j < i → ends_above from (pos k) j ≡ false) → get_or from i 0 ≤ k
    begun_at zero passed = omega (arith, entry_first side es)
    begun_at (suc j) passed = rw (← add-one j) (ltb-false _ _ (passed j (omega arith)))

    go : (i : ℕ) → Found (ends_above from (pos k)) (length es) i → Inside side es k i
    go i s = record {
      below = s.below;
      begun = begun_at i s.passed;
      goes_on = by_test (ltb (i + 1) (length es))
          (λ e. ltb-true _ _ (s.here (ltb-true _ _ e)))
          (λ e. let last : i + 1 ≡ length es = omega (arith, s.below, ltb-false) in rw last (omega (arith, entry_total side es)));
    }

-- where an interval's ends are one place, its stop's spot follows from its start's
pub stop_follows : (s : Segment) (p : ℤ) (forward : Bool) → spot_of s p stop forward ≡ stop_of (spot_of s p start forward)
unfolding spot_in nearer stop_of
stop_follows s p forward = go s.does
  where
    further : unsurely s.number (pos s.other) ≡ unsurely s.number (pos s.other -ℤ pos 1 +ℤ pos 1)
    further = ap (unsurely s.number) (omega (order, dif (pos s.other) (pos 1), sum (pos s.other -ℤ pos 1) (pos 1)))

    go : (k : Kind) → spot_in s.number k s.begins s.ends s.other p stop forward ≡ stop_of (spot_in s.number k s.begins s.ends s.other p start forward)
    go matches = refl
    go inserts = further
    go deletes = further
    go skips =
        let left = p -ℤ pos s.begins +ℤ pos 1 in
        let right = pos s.ends -ℤ p in
        by_test (left_nearer forward left right) (λ e. rw e refl) (λ e. rw e refl)

pub stop_of_place : (from to : Side) (es : List Element) (p : ℤ) (forward : Bool) → map_place from to es p stop forward ≡ stop_of (map_place from to es p start forward)
unfolding map_place map_by_tables
stop_of_place from to es p forward = stop_follows _ p forward

-- ---- a spot's segment

edge_number : (i : ℕ) (forward : Bool) (t : ℕ) (left right : ℤ) → (nearer i forward t left right).number ≡ i
unfolding nearer
edge_number i forward t left right = by_test (left_nearer forward left right) (λ e. rw e) (λ e. rw e)

-- it is the segment that the place is mapped by
pub spot_number : (s : Segment) (p : ℤ) (e : End) (forward : Bool) → (spot_of s p e forward).number ≡ s.number
unfolding spot_in
spot_number s p e forward = go s.does
  where
    go : (k : Kind) → (spot_in s.number k s.begins s.ends s.other p e forward).number ≡ s.number
    go matches = refl
    go inserts = refl
    go deletes = refl
    go skips = edge_number s.number forward s.other _ _

pub number_below : (from to : Side) (es : List Element) (p : ℤ) (e : End) (forward : Bool) → 0 < length es → (map_place from to es p e forward).number < length es
unfolding map_place map_by_tables
number_below from to es p e forward some = rw (spot_number (segment_at (entries_of from es) (entries_of to es) (letters_of es) (index_of (entries_of from es) (length es) p)) p e forward) (index_says (entries_of from es) (length es) p some).below
