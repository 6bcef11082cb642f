-- How far off a spot can be: a place of the elements goes to -1 at the least and to the other side's length at the most, with an offset of at most its own side's length. Assumes nothing.
use Prim.Native.Nat.{ℕ, ◌+◌, ◌≤◌, ◌<◌}
use native.Mathlib.Omega.{arith}
use mathlib.Core.Bool.{Bool}
use mathlib.Core.List.{List}
use mathlib.Core.Path.{◌≡◌, refl, sym, ap, ◌∙◌}
use lib.IntN.{ℤ, pos, ◌+ℤ◌, ◌-ℤ◌}
use lib.ListN.{get_or, length, take, drop, take-append-drop}
use Rattle.whole.specs.laws.Whole.{by_test, order, sum, dif, neg, up, dn}
use Rattle.cigar.specs.Elements.{Element, Side, Kind, kind_of, kind, total}
use Rattle.cigar.specs.Elements.Kind.{matches, inserts, deletes, skips}
use Rattle.cigar.specs.Read.{letters_of}
use Rattle.segments.specs.Tables.{entries_of}
use Rattle.segments.specs.Places.{End, left_nearer, nearer, spot_in, map_by_tables, map_place}
use Rattle.finding.specs.Finding.{index_of}
use Rattle.segments.specs.Places.End.{start, stop}
use Rattle.segments.specs.laws.Totals.{total_append}
use Rattle.segments.specs.laws.Made.{nowhere, letter_at, entry_at, entry_next}
use Rattle.segments.proofs.laws.Spotting.{inside}
use Rattle.promises.proofs.Fits.{Within}

pub record Near (limit : ℕ) (z : ℤ) : Type 0 where
  pub high : up z ≤ limit + dn z
  pub low : dn z ≤ 1 + up z

-- a place k of a segment that goes from f to h, among elements that end at `limit` on the other side
near_spot : (i : ℕ) (c : Kind) (f h t k limit : ℕ) (e : End) (forward : Bool) → f ≤ k → k < h → t ≤ limit → (c ≡ matches → t + h ≤ limit + f) → Near limit (spot_in i c f h t (pos k) e forward).place
unfolding spot_in nearer
near_spot i matches f h t k limit e forward begun goes_on in_limit m =
    let v = m refl in
    record { high = omega (order, dif (pos k) (pos f), sum (pos t) (pos k -ℤ pos f)); low = omega (order, dif (pos k) (pos f), sum (pos t) (pos k -ℤ pos f)) }
near_spot i inserts f h t k limit start forward begun goes_on in_limit m = record { high = omega (order, dif (pos t) (pos 1)); low = omega (order, dif (pos t) (pos 1)) }
near_spot i inserts f h t k limit stop forward begun goes_on in_limit m = record { high = omega arith; low = omega arith }
near_spot i deletes f h t k limit start forward begun goes_on in_limit m = record { high = omega (order, dif (pos t) (pos 1)); low = omega (order, dif (pos t) (pos 1)) }
near_spot i deletes f h t k limit stop forward begun goes_on in_limit m = record { high = omega arith; low = omega arith }
near_spot i skips f h t k limit e forward begun goes_on in_limit m =
    by_test (left_nearer forward (pos k -ℤ pos f +ℤ pos 1) (pos h -ℤ pos k))
    (λ n. rw n (record { high = omega (order, dif (pos t) (pos 1)); low = omega (order, dif (pos t) (pos 1)) }))
    (λ n. rw n (record { high = omega arith; low = omega arith }))

-- and its offset, where the segment ends at `most` or before
offset_spot : (i : ℕ) (c : Kind) (f h t k most : ℕ) (e : End) (forward : Bool) → f ≤ k → k < h → h ≤ most → Within most (spot_in i c f h t (pos k) e forward).offset
unfolding spot_in nearer
offset_spot i matches f h t k most e forward begun goes_on in_most = record { high = omega arith; low = omega arith }
offset_spot i inserts f h t k most e forward begun goes_on in_most = record { high = omega arith; low = omega arith }
offset_spot i deletes f h t k most e forward begun goes_on in_most = record { high = omega arith; low = omega arith }
offset_spot i skips f h t k most e forward begun goes_on in_most =
    let left = pos k -ℤ pos f +ℤ pos 1 in
    let right = pos h -ℤ pos k in
    by_test (left_nearer forward left right)
    (λ n. rw n (record { high = omega (order, dif (pos k) (pos f), sum (pos k -ℤ pos f) (pos 1)); low = omega (order, dif (pos k) (pos f), sum (pos k -ℤ pos f) (pos 1)) }))
    (λ n. rw n (record { high = omega (order, dif (pos h) (pos k), neg right); low = omega (order, dif (pos h) (pos k), neg right) }))

-- no entry is past the total
entry_within : (side : Side) (es : List Element) (k : ℕ) → k ≤ length es → get_or (entries_of side es) k 0 ≤ total side es
entry_within side es k h =
    let parts : total side es ≡ total side (take k es) + total side (drop k es) = ap (total side) (sym (take-append-drop k es)) ∙ total_append side (take k es) (drop k es) in
    rw (entry_at side es k h) (omega arith)

module _ (from to : Side) (even : (x : Element) → kind x ≡ matches → from x ≡ to x) where
  pub near_place : (ys : List Element) (k : ℕ) (e : End) (forward : Bool) → k < total from ys → Near (total to ys) (map_place from to ys (pos k) e forward).place
  unfolding map_place map_by_tables
  near_place ys k e forward h =
      let i = index_of (entries_of from ys) (length ys) (pos k) in
      let x = get_or ys i nowhere in
      let lies = inside from ys k h in
      let next = entry_within to ys (i + 1) (omega (arith, lies.below)) in
      near_spot i (kind_of (get_or (letters_of ys) i 0)) _ _ _ k (total to ys) e forward lies.begun lies.goes_on
      (omega (arith, entry_next to ys i lies.below))
      (λ m. omega (arith, entry_next from ys i lies.below, entry_next to ys i lies.below, even x (sym (ap kind_of (letter_at ys i)) ∙ m)))

pub near_offset : (from to : Side) (ys : List Element) (k : ℕ) (e : End) (forward : Bool) → k < total from ys → Within (total from ys) (map_place from to ys (pos k) e forward).offset
unfolding map_place map_by_tables
near_offset from to ys k e forward h =
    let i = index_of (entries_of from ys) (length ys) (pos k) in
    let lies = inside from ys k h in
    offset_spot i (kind_of (get_or (letters_of ys) i 0)) _ _ _ k (total from ys) e forward lies.begun lies.goes_on (entry_within from ys (i + 1) (omega (arith, lies.below)))
