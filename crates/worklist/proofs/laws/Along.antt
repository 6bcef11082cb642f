-- Where the walk stands after i slots of a list that never falls, and that it may go on from there. Assumes nothing.
use Prim.Native.Nat.{ℕ, zero, suc, ◌+◌, ◌-◌, ◌≤◌, ◌<◌}
use native.Mathlib.Omega.{arith}
use Rattle.std.proofs.Common.{add-one, sym, ap, ◌∙◌}
use Rattle.std.specs.Prelude.{Bool, false, List, ◌≡◌, ℤ, pos, ◌-ℤ◌, get_or, length, if◌then◌else◌}
use Rattle.std.proofs.Math.Bool.{true}
use Rattle.std.proofs.Math.Option.{Option, none as no_place, some}
use Rattle.std.proofs.Math.Path.{refl}
use Rattle.std.specs.Int.Signed.{lt_z, le_z}
use Rattle.whole.specs.laws.Whole.{by_test, order, dif}
use Rattle.segments.specs.laws.Meaning.{all_at}
use Rattle.finding.specs.laws.Index.{index_says, index_rises}
use Rattle.worklist.specs.Worklist.{Track, place_on, within, segment_of, wider, largest, segment_or0, steps_after, rises_at, never_falls}
use Rattle.worklist.specs.Walking.{next_index, Ready}

-- ---- the largest place so far

-- a place that was found is at most q
abbrev AtMost : Option ℤ → ℤ → Type 0
AtMost no_place q = Unit {0}
AtMost (some m) q = le_z m q ≡ true

module _ (r : Track) where
  wider_at_most : (o : Option ℤ) (p q : ℤ) → AtMost o q → le_z p q ≡ true → AtMost (wider r o p) q
  wider_at_most no_place p q h l = by_test (within r p) (λ e. rw e l) (λ e. rw e tt)
  wider_at_most (some m) p q h l = by_test (within r p) (λ e. by_test (lt_z m p) (λ u. rw (e, u) l) (λ u. rw (e, u) h)) (λ e. rw e h)

  index_below : (o : Option ℤ) (q : ℤ) → AtMost o q → segment_or0 r o ≤ segment_of r q
  index_below no_place q h = omega arith
  index_below (some m) q h = index_rises r.starts r.count m q h

  index_next : (o : Option ℤ) (q : ℤ) → AtMost o q → (if within r q then segment_of r q else segment_or0 r o) ≡ segment_or0 r (wider r o q)
  index_next no_place q h = by_test (within r q) (λ e. rw e refl) (λ e. rw e refl)
  index_next (some m) q h =
      by_test (within r q)
      (λ e. by_test (lt_z m q) (λ u. rw (e, u) refl) (λ u. (let same : q ≡ m = omega (order, h, u) in rw (e, u) (ap (segment_of r) same))))
      (λ e. rw e refl)

  pub index_begins : (gs : List ℤ) → 0 ≡ steps_after r gs 0
  unfolding largest
  index_begins gs = refl

  pub index_on : 0 < r.count → (gs : List ℤ) (i : ℕ) → steps_after r gs i < r.count
  index_on h gs i = go (largest r gs i)
    where
      go : (o : Option ℤ) → segment_or0 r o < r.count
      go no_place = h
      go (some m) = (index_says r.starts r.count m h).below

-- ---- a list that never falls

module _ (gs : List ℤ) (sorted : never_falls gs ≡ true) where
  rises_at_lem : (i : ℕ) → i + 1 < length gs → le_z (get_or gs i (pos 0)) (get_or gs (i + 1) (pos 0)) ≡ true
  unfolding never_falls
  rises_at_lem i l = all_at (rises_at gs) (length gs - 1) sorted i (omega arith)

  rises : (i d : ℕ) → i + d < length gs → le_z (get_or gs i (pos 0)) (get_or gs (i + d) (pos 0)) ≡ true
  rises i zero l = (let q : i + 0 ≡ i = omega arith in rw q (omega order))
  rises i (suc d) l =
      let q : i + suc d ≡ i + d + 1 = omega arith in
      let before = rises i d (omega arith) in
      let step = rises_at_lem (i + d) (omega arith) in
      rw q (omega (order, before, step))

  module _ (r : Track) where
    place_rises : (g h : ℤ) → le_z g h ≡ true → le_z (place_on r g) (place_on r h) ≡ true
    place_rises g h l = omega (order, l, dif g (pos 1), dif h (pos 1), dif (g -ℤ pos 1) (pos r.first), dif (h -ℤ pos 1) (pos r.first))

    -- the largest place within of the first i positions is not above a later position's place
    top_below : (i n : ℕ) → i ≤ n → n < length gs → AtMost (largest r gs i) (place_on r (get_or gs n (pos 0)))
    unfolding largest
    top_below zero n l k = tt
    top_below (suc i) n l k =
        let e : i + (n - i) ≡ n = omega arith in
        let h : le_z (get_or gs i (pos 0)) (get_or gs n (pos 0)) ≡ true = rw e at (rises i (n - i) (omega arith)) in
        wider_at_most r (largest r gs i) (place_on r (get_or gs i (pos 0))) (place_on r (get_or gs n (pos 0))) (top_below i n (omega arith) k) (place_rises (get_or gs i (pos 0)) (get_or gs n (pos 0)) h)

    module _ (some_segment : 0 < r.count) (i : ℕ) (l : i < length gs) where
      abbrev g : ℤ
      g = get_or gs i (pos 0)

      -- the walk has not gone past slot i
      pub walk_ready : Ready r (steps_after r gs i) g
      walk_ready = record { before = λ _. index_below r (largest r gs i) (place_on r g) (top_below i i (omega arith) l); on = index_on r some_segment gs i }

      -- where it stands after slot i
      pub walk_next : next_index r (steps_after r gs i) g ≡ steps_after r gs (i + 1)
      unfolding largest
      walk_next = rw (add-one i) (index_next r (largest r gs i) (place_on r g) (top_below i i (omega arith) l))

      -- and that is the segment of slot i
      pub walk_here : within r (place_on r g) ≡ true → steps_after r gs (i + 1) ≡ segment_of r (place_on r g)
      walk_here e = sym walk_next ∙ ap (λ (t : Bool). if t then segment_of r (place_on r g) else steps_after r gs i) e

      -- and it never steps back
      pub never_back : steps_after r gs i ≤ steps_after r gs (i + 1)
      never_back = by_test (within r (place_on r g)) (λ e. rw (walk_here e) (walk_ready.before e)) (λ e. rw (← walk_next, e) (omega arith))

      -- where the place lies outside, it stays
      pub walk_stays : within r (place_on r g) ≡ false → steps_after r gs (i + 1) ≡ steps_after r gs i
      walk_stays e = sym walk_next ∙ ap (λ (t : Bool). if t then segment_of r (place_on r g) else steps_after r gs i) e
