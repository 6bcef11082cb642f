-- Runs of stores: over a whole list, and of one number. Assumes nothing.
use mathlib.Core.Path.{◌≡◌, sym, ap, ◌∙◌}
use mathlib.Core.List.{List, ◌∷◌, ◌++◌, append-nil}
use Prim.Native.Nat.{ℕ, suc, ◌+◌, ◌-◌, ◌≤◌, ◌<◌}
use native.Mathlib.Numerals.{add-one}
use native.Mathlib.Omega.{arith}
use Rattle.std.proofs.Common.{append_assoc, drop-drop}
use lib.ListN.{take, drop, length, set, replicate, drop_of_length-le, length-replicate}
use lib.Seq.{sets, sets-eq}
use borrow.Rule.Slice.PartMut.{mid_of, put_mid, mid_len}
use Rattle.cigar.specs.laws.Stores.{sets_append}

-- a run over a whole list leaves nothing of it
pub sets_whole : (xs l : List ℕ) → length xs ≡ length l → sets l 0 xs ≡ xs
sets_whole xs l e =
    sets-eq xs l 0 (omega arith)
    ∙ ap (λ (r : List ℕ). xs ++ r) (drop_of_length-le l {i = 0 + length xs} (omega arith))
    ∙ append-nil xs

-- one more of a run of one number
pub run_more : (l : List ℕ) (i n a : ℕ) → i < n → sets l i (replicate (n - i) a) ≡ sets (set l i a) (i + 1) (replicate (n - (i + 1)) a)
run_more l i n a h =
    let one : n - i ≡ suc (n - (i + 1)) = omega arith in
    rw (one, add-one i)

pub run_none : (l : List ℕ) (i n a : ℕ) → n ≤ i → sets l i (replicate (n - i) a) ≡ l
run_none l i n a h = let none : n - i ≡ 0 = omega arith in rw none

-- one number, and then a run
pub run_after : (l xs : List ℕ) (i a : ℕ) → sets l i (a ∷ xs) ≡ sets (set l i a) (i + 1) xs
run_after l xs i a = rw (add-one i)

-- what was stored is taken off what is left to store
pub sets_then : (l : List ℕ) (i : ℕ) (xs ys : List ℕ) {m : List ℕ} {j : ℕ} → m ≡ sets l i xs → j ≡ i + length xs → sets l i (xs ++ ys) ≡ sets m j ys
sets_then l i xs ys p q = sets_append xs ys l i ∙ rw (← p, ← q)

-- a part of a list, of which each place was given one number
pub filled : (l ys : List ℕ) (i e a : ℕ) → i ≤ e → e ≤ length l → ys ≡ replicate (length (mid_of i (e - i) l)) a → put_mid i (e - i) l ys ≡ sets l i (replicate (e - i) a)
filled l ys i e a h k q =
    let long : length (replicate (e - i) a) ≡ e - i = length-replicate (e - i) a in
    rw (q, mid_len i e l k)
    (sym (sets-eq (replicate (e - i) a) l i (rw long (omega arith)) ∙ rw (long, drop-drop (e - i) i l) (append_assoc (take i l) (replicate (e - i) a) (drop (i + (e - i)) l))))
