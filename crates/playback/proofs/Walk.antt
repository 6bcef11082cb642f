-- A log's entries, one by one: what is found among the first of them, and with one more.
--     none_found, found_more         the indices
--     lines_none, lines_more         their lines
--     total_more, one_at_most        how many they are
--     lines_front                    the lines of the first are no longer than those of all
-- Assumes nothing.
use mathlib.Core.Path.{◌≡◌, refl, ap, ◌∙◌}
use mathlib.Core.Bool.{Bool, true, false}
use mathlib.Core.List.{List, [], ◌∷◌, ◌++◌, append-nil}
use Prim.Native.Nat.{ℕ, zero, suc, ◌+◌, ◌*◌, ◌-◌, ◌≤◌}
use native.Mathlib.Nat.{add-zero, zero-add}
use native.Mathlib.Omega.{arith}
use lib.ListN.{length, length-append}
use Rattle.holding.specs.Holding.{Lent}
use Rattle.layout.specs.Layout.{star_of}
use Rattle.journal.specs.Layout.{entries_at}
use Rattle.entries.specs.Layout.{entry_size}
use Rattle.entries.specs.Entries.{entry_at}
use Rattle.journal.specs.Logs.{entries_from}
use Rattle.journal.specs.laws.LogTrips.{from_length}
use Rattle.playback.specs.Lines.{lines_of, index_if}
use Rattle.playback.specs.Replay.{differs, indices_from, differing}
use Rattle.playback.specs.laws.Lines.{lines_append, no_line}
use Rattle.playback.proofs.laws.Replay.{indices_append}

entries_append : (m n : ℕ) (s : List ℕ) (at : ℕ) → entries_from (m + n) s at ≡ entries_from m s at ++ entries_from n s (at + entry_size * m)
unfolding entries_from
entries_append zero n s at = rw (zero-add n, add-zero at)
entries_append (suc m) n s at =
    let one : suc m + n ≡ suc (m + n) = omega arith in
    let place : at + entry_size + entry_size * m ≡ at + entry_size * suc m = omega arith in
    rw one (ap (λ (es : List _). entry_at s at ∷ es) (rw (← place) (entries_append m n s (at + entry_size))))

pub one_at_most : (b : Bool) → star_of b ≤ 1
one_at_most true = omega arith
one_at_most false = omega arith

length_if : (b : Bool) (i : ℕ) → length (index_if b i) ≡ star_of b
length_if true i = refl
length_if false i = refl

module _ (x : Lent) (s : List ℕ) where
  -- the indices among the first n entries
  abbrev pub found : ℕ → List ℕ
  found n = differing x (entries_from n s entries_at)

  -- the entry of an index differs
  abbrev pub differs_at : ℕ → Bool
  differs_at i = differs x (entry_at s (entries_at + entry_size * i))

  pub none_found : found 0 ≡ []
  unfolding entries_from indices_from
  none_found = refl

  one_found : (i n : ℕ) → indices_from x i (entries_from 1 s (entries_at + entry_size * n)) ≡ index_if (differs_at n) i
  unfolding entries_from indices_from
  one_found i n = append-nil (index_if (differs_at n) i)

  pub found_more : (n : ℕ) → found (n + 1) ≡ found n ++ index_if (differs_at n) n
  found_more n =
      let count : 0 + length (entries_from n s entries_at) ≡ n = zero-add (length (entries_from n s entries_at)) ∙ from_length n s entries_at in
      ap (differing x) (entries_append n 1 s entries_at)
      ∙ indices_append x 0 (entries_from n s entries_at) (entries_from 1 s (entries_at + entry_size * n))
      ∙ rw (count, one_found n n)

  pub lines_none : lines_of (found 0) ≡ []
  lines_none = ap lines_of none_found ∙ no_line

  pub lines_more : (n : ℕ) → lines_of (found (n + 1)) ≡ lines_of (found n) ++ lines_of (index_if (differs_at n) n)
  lines_more n = ap lines_of (found_more n) ∙ lines_append (found n) (index_if (differs_at n) n)

  pub total_more : (n : ℕ) → length (found (n + 1)) ≡ length (found n) + star_of (differs_at n)
  total_more n = ap length (found_more n) ∙ length-append (found n) (index_if (differs_at n) n) ∙ rw (length_if (differs_at n) n)

  pub size_more : (n : ℕ) → length (lines_of (found (n + 1))) ≡ length (lines_of (found n)) + length (lines_of (index_if (differs_at n) n))
  size_more n = ap length (lines_more n) ∙ length-append (lines_of (found n)) (lines_of (index_if (differs_at n) n))

  -- among the first m, and among m + n
  front : (m n : ℕ) → length (lines_of (found m)) ≤ length (lines_of (found (m + n)))
  front m n =
      let rest = indices_from x (0 + length (entries_from m s entries_at)) (entries_from n s (entries_at + entry_size * m)) in
      let both : found (m + n) ≡ found m ++ rest =
      ap (differing x) (entries_append m n s entries_at) ∙ indices_append x 0 (entries_from m s entries_at) (entries_from n s (entries_at + entry_size * m)) in
      omega (arith, ap (λ (l : List ℕ). length (lines_of l)) both, ap length (lines_append (found m) rest), length-append (lines_of (found m)) (lines_of rest))

  pub lines_front : (m n : ℕ) → m ≤ n → length (lines_of (found m)) ≤ length (lines_of (found n))
  lines_front m n h =
      let whole : m + (n - m) ≡ n = omega arith in
      rw whole at (front m (n - m))
