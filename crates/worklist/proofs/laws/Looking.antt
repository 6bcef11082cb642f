-- One walk: all in all it looks at one entry for each segment that it steps over and one for each slot, so at fewer than there are segments and slots. Assumes nothing.
use Prim.Native.Nat.{ℕ, zero, suc, ◌+◌, ◌-◌, ◌≤◌, ◌<◌}
use native.Mathlib.Omega.{arith}
use Rattle.std.proofs.Common.{add-one}
use Rattle.std.specs.Prelude.{true, List, ◌≡◌, ℤ, pos, get_or, length}
use Rattle.whole.specs.laws.Whole.{by_test}
use Rattle.finding.specs.Finding.{ends_above, index_of}
use Rattle.finding.specs.laws.Index.{walk_goes_on}
use Rattle.worklist.specs.Worklist.{Track, place_on, within, steps_after, steps_of, never_falls}
use Rattle.worklist.specs.Looks.{looks_from, looks_at, looks_after}
use Rattle.worklist.proofs.laws.Along.{index_on, walk_ready, walk_here, walk_stays}

-- one position: an entry for each segment that is left, and at most one more
looks_few : (starts : List ℕ) (n : ℕ) (p : ℤ) → 0 < n → (m i : ℕ) → i + m ≡ n - 1 → i ≤ index_of starts n p → looks_from starts p i m + i ≤ index_of starts n p + 1
unfolding looks_from
looks_few starts n p any zero i e before = omega arith
looks_few starts n p any (suc m) i e before =
    by_test (ends_above starts p i)
    (λ t. rw t (omega arith))
    (λ t. rw t (omega (arith, looks_few starts n p any m (i + 1) (omega arith) (walk_goes_on starts n p any i before (omega arith) t))))

module _ (gs : List ℤ) (sorted : never_falls gs ≡ true) (r : Track) (any : 0 < r.count) where
  at_few : (i : ℕ) → i < length gs → looks_at r gs i + steps_after r gs i ≤ steps_after r gs (i + 1) + 1
  at_few i l =
      by_test (within r (place_on r (get_or gs i (pos 0))))
      (λ t. rw (t, walk_here gs sorted r any i l t)
      (looks_few r.starts r.count (place_on r (get_or gs i (pos 0))) any (r.count - 1 - steps_after r gs i) (steps_after r gs i) (omega (arith, index_on r any gs i)) ((walk_ready gs sorted r any i l).before t)))
      (λ t. rw (t, walk_stays gs sorted r any i l t) (omega arith))

  looks_after_lem : (i : ℕ) → i ≤ length gs → looks_after r gs i ≤ steps_after r gs i + i
  unfolding looks_after
  looks_after_lem zero l = omega arith
  looks_after_lem (suc i) l = omega (arith, looks_after_lem i (omega arith), rw (add-one i) at (at_few i l))

  -- of all slots
  pub looks_all : looks_after r gs (length gs) ≤ steps_of r gs + length gs
  looks_all = looks_after_lem (length gs) (omega arith)

  pub looks_fewer : looks_after r gs (length gs) < r.count + length gs
  looks_fewer = omega (arith, looks_all, index_on r any gs (length gs))
