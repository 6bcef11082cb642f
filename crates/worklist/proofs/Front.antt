-- A list of which the first i elements are those of another list: what a loop that fills a slice from the front has after i turns.
--     front ys ws i     ws's first i, then ys's from i on
--     front_at          what is at i is still ys's.
--     front_set         one store more.        front_all      at the end it is ws
-- Assumes nothing.
use mathlib.Core.Path.{◌≡◌, sym, ◌∙◌}
use mathlib.Core.List.{List, ◌++◌, append-nil}
use Prim.Native.Nat.{ℕ, suc, ◌+◌, ◌≤◌, ◌<◌}
use native.Mathlib.Numerals.{add-one}
use native.Mathlib.Omega.{arith}
use lib.ListN.{length, get_or, take, drop, set, drop_of_length-le}
use lib.Seq.{get_or_at, drop-cons, take-suc, take_all, set_at, length-take-le, append_snoc}

abbrev pub front : {X : Type 0} → List X → List X → ℕ → List X
front ys ws i = take i ws ++ drop i ys

module _ {X : Type 0} (ys ws : List X) (same : length ws ≡ length ys) where
  pub front_set : (i : ℕ) (d : X) → i < length ys → set (front ys ws i) i (get_or ws i d) ≡ front ys ws (i + 1)
  front_set i d h =
      rw (drop-cons ys i d h, add-one i)
      (set_at (take i ws) (get_or ys i d) (drop (suc i) ys) (get_or ws i d) i (length-take-le i ws (omega arith))
      ∙ sym (rw (take-suc ws i d (omega arith)) (append_snoc (take i ws) (get_or ws i d) (drop (suc i) ys))))

  pub front_all : (i : ℕ) → length ys ≤ i → front ys ws i ≡ ws
  front_all i h = rw (drop_of_length-le ys h) (append-nil (take i ws) ∙ take_all i ws (omega arith))

  pub front_at : (i : ℕ) (d : X) → i < length ys → get_or (front ys ws i) i d ≡ get_or ys i d
  front_at i d h = rw (drop-cons ys i d h) (get_or_at (take i ws) (get_or ys i d) (drop (suc i) ys) d i (length-take-le i ws (omega arith)))
