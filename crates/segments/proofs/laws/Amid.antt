-- A place in the middle part ys of xs ++ (ys ++ zs): its segment is the one that ys alone finds, as many numbers further as xs has elements, and its spot is ys's own, slid along. Assumes nothing.
use Rattle.std.specs.Prelude.{ℕ, ◌+◌, ◌-◌, ◌≤◌, ◌<◌, Bool, List, [], ◌∷◌, ◌++◌, ◌≡◌, refl, ltb, ℤ, pos, ◌+ℤ◌, ◌-ℤ◌, get_or, length, take, drop}
use Rattle.std.proofs.Common.{arith, sym, ap, ◌∙◌, length-append, take-append-drop, get_or-append-add, ltb-true, ltb-false, lt-ltb, le-ltb}
use Rattle.std.proofs.Math.ListN.{get_or-append}
use Rattle.std.proofs.Math.Seq.{take-append-add}
use Rattle.std.proofs.lemmas.List.{take-append-le}
use Rattle.whole.specs.laws.Whole.{by_test, order, sum, dif}
use Rattle.cigar.specs.Elements.{Element, Side, Kind, kind, kind_of, total}
use Rattle.cigar.specs.Elements.Kind.{matches, inserts, deletes, skips}
use Rattle.cigar.specs.Read.{letters_of}
use Rattle.segments.specs.Tables.{entries_from, entries_of}
use Rattle.segments.specs.Places.{Spot, End, beside, left_nearer, nearer, spot_in, map_by_tables, map_place}
use Rattle.finding.specs.Finding.{first_below, ends_above, index_of}
use Rattle.segments.specs.Places.End.{start, stop}
use Rattle.segments.specs.laws.Totals.{total_append}
use Rattle.segments.specs.laws.Made.{nowhere, entry_at, letter_at}
use Rattle.finding.specs.laws.Index.{Found, index_says, index_is}
use Rattle.segments.proofs.laws.Spotting.{Inside, inside}

-- ---- entries and letters

module _ (xs ys zs : List Element) where
  abbrev all : List Element
  all = xs ++ (ys ++ zs)

  all_length : length all ≡ length xs + (length ys + length zs)
  all_length = simp length-append

  -- before the middle part entries go no further than xs
  entry_before : (side : Side) (k : ℕ) → k ≤ length xs → get_or (entries_of side all) k 0 ≤ total side xs
  entry_before side k h =
      let parts : total side xs ≡ total side (take k xs) + total side (drop k xs) = ap (total side) (sym (take-append-drop k xs)) ∙ total_append side (take k xs) (drop k xs) in
      rw (entry_at side all k (omega (arith, all_length)), take-append-le k xs (ys ++ zs) h) (omega arith)

  -- in it they are its own, as much further as xs goes
  entry_amid : (side : Side) (k : ℕ) → k ≤ length ys → get_or (entries_of side all) (length xs + k) 0 ≡ total side xs + get_or (entries_of side ys) k 0
  entry_amid side k h =
      rw (entry_at side all (length xs + k) (omega (arith, all_length)), take-append-add xs (ys ++ zs) k, take-append-le k ys zs h, total_append side xs (take k ys), entry_at side ys k h)

  letter_amid : (k : ℕ) → k < length ys → get_or (letters_of all) (length xs + k) 0 ≡ get_or (letters_of ys) k 0
  letter_amid k h =
      letter_at all (length xs + k)
      ∙ ap (λ (x : Element). x.letter) (get_or-append-add xs (ys ++ zs) k nowhere ∙ get_or-append ys zs nowhere k h)
      ∙ sym (letter_at ys k)

  -- ---- the number

  module _ (side : Side) (k : ℕ) (h : k < total side ys) where
    abbrev place : ℤ
    place = pos (total side xs + k)

    abbrev end : ℕ → ℕ
    end j = get_or (entries_of side all) (j + 1) 0

    abbrev own : ℕ
    own = index_of (entries_of side ys) (length ys) (pos k)

    found : Found (ends_above (entries_of side all) place) (length all) (length xs + own)
    found = record {
      below = omega (arith, all_length, lies.below);
      passed = λ j l. by_test (ltb j (length xs))
          (λ e. le-ltb (total side xs + k) (end j) (omega (arith, entry_before side (j + 1) (omega (arith, ltb-true)))))
          (λ e.
          let past = ltb-false j (length xs) e in
          let at : j + 1 ≡ length xs + (j - length xs + 1) = omega arith in
          let before = ltb-false k (get_or (entries_of side ys) (j - length xs + 1) 0) (says.passed (j - length xs) (omega arith)) in
          le-ltb (total side xs + k) (end j) (rw (at, entry_amid side (j - length xs + 1) (omega (arith, lies.below))) (omega arith)));
      here = λ l.
          let at : length xs + own + 1 ≡ length xs + (own + 1) = omega arith in
          lt-ltb (total side xs + k) (end (length xs + own)) (rw (at, entry_amid side (own + 1) (omega (arith, lies.below))) (omega (arith, lies.goes_on)));
    }
      where
        lies : Inside side ys k own
        lies = inside side ys k h

        says : Found (ends_above (entries_of side ys) (pos k)) (length ys) own
        says = index_says (entries_of side ys) (length ys) (pos k) (omega (arith, lies.below))

    pub index_amid : index_of (entries_of side all) (length all) place ≡ length xs + own
    index_amid = sym (index_is (entries_of side all) (length all) place found)

-- ---- the spot

-- a spot that is a segments and b bases further along
abbrev pub slid : ℕ → ℕ → Spot → Spot
slid a b s = record { place = pos b +ℤ s.place; offset = s.offset; sure = s.sure; number = a + s.number; edge = s.edge }

-- a difference stays when both numbers grow
same_gap : (a f k : ℕ) → pos (a + k) -ℤ pos (a + f) ≡ pos k -ℤ pos f
same_gap a f k = omega (order, dif (pos (a + k)) (pos (a + f)), dif (pos k) (pos f))

slid_one : (b t : ℕ) → pos (b + t) -ℤ pos 1 ≡ pos b +ℤ (pos t -ℤ pos 1)
slid_one b t = omega (order, dif (pos (b + t)) (pos 1), dif (pos t) (pos 1), sum (pos b) (pos t -ℤ pos 1))

slid_sum : (b t : ℕ) (z : ℤ) → pos (b + t) +ℤ z ≡ pos b +ℤ (pos t +ℤ z)
slid_sum b t z = omega (order, sum (pos (b + t)) z, sum (pos t) z, sum (pos b) (pos t +ℤ z))

slid_beside : (e : End) (b t : ℕ) → beside e (b + t) ≡ pos b +ℤ beside e t
slid_beside start b t = slid_one b t
slid_beside stop b t = refl

slid_nearer : (a i : ℕ) (forward : Bool) (b t : ℕ) (left right : ℤ) → nearer (a + i) forward (b + t) left right ≡ slid a b (nearer i forward t left right)
unfolding nearer
slid_nearer a i forward b t left right =
    by_test (left_nearer forward left right)
    (λ e. rw (e, slid_one b t))
    (λ e. rw e)

-- c segments and a bases before it on its side, and b on the other
slid_spot : (does : Kind) (c a b i f h t k : ℕ) (e : End) (forward : Bool)
    → spot_in (c + i) does (a + f) (a + h) (b + t) (pos (a + k)) e forward ≡ slid c b (spot_in i does f h t (pos k) e forward)
unfolding spot_in
slid_spot matches c a b i f h t k e forward = rw (same_gap a f k, slid_sum b t (pos k -ℤ pos f))
slid_spot inserts c a b i f h t k e forward = rw (slid_beside e b t)
slid_spot deletes c a b i f h t k e forward = rw (slid_beside e b t)
slid_spot skips c a b i f h t k e forward = rw (same_gap a f k, same_gap a k h) (slid_nearer c i forward b t (pos k -ℤ pos f +ℤ pos 1) (pos h -ℤ pos k))

pub place_amid : (from to : Side) (xs ys zs : List Element) (k : ℕ) (e : End) (forward : Bool) → k < total from ys
    → map_place from to (xs ++ (ys ++ zs)) (pos (total from xs + k)) e forward ≡ slid (length xs) (total to xs) (map_place from to ys (pos k) e forward)
unfolding map_place map_by_tables
place_amid from to xs ys zs k e forward h =
    let i = index_of (entries_of from ys) (length ys) (pos k) in
    let below = (inside from ys k h).below in
    let next : length xs + i + 1 ≡ length xs + (i + 1) = omega arith in
    rw (index_amid xs ys zs from k h, next, letter_amid xs ys zs i below, entry_amid xs ys zs from i (omega arith), entry_amid xs ys zs from (i + 1) (omega arith), entry_amid xs ys zs to i (omega arith))
    (slid_spot (kind_of (get_or (letters_of ys) i 0)) (length xs) (total from xs) (total to xs) i (get_or (entries_of from ys) i 0) (get_or (entries_of from ys) (i + 1) 0) (get_or (entries_of to ys) i 0) k e forward)

-- one element alone is the segment 0
pub one_place : (from to : Side) (x : Element) (p : ℤ) (e : End) (forward : Bool) → map_place from to (x ∷ []) p e forward ≡ spot_in 0 (kind x) 0 (from x) 0 p e forward
unfolding map_place map_by_tables index_of first_below entries_from
one_place from to x p e forward = let u : 0 + from x ≡ from x = omega arith in rw u
