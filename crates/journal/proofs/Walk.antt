-- Entries, one by one: whether those from a place on are all such as a log holds.
--     rest_more    the entry at the place, and those behind it
--     rest_none    no entry
-- Assumes nothing.
use Rattle.std.proofs.Common.{◌≡◌, true, Bool, ◌&&◌, List, ℕ, suc, ◌+◌, ◌-◌, ◌*◌, ◌<◌, ◌≤◌, arith}
use Rattle.entries.specs.Layout.{entry_size}
use Rattle.entries.specs.Entries.{entry_at}
use Rattle.canonical.specs.Canonical.{canonical}
use Rattle.journal.specs.Layout.{entries_at}
use Rattle.journal.specs.Logs.{entries_from, all_canonical}

-- where the i-th entry stands
abbrev pub place : ℕ → ℕ
place i = entries_at + entry_size * i

-- whether the entries from the i-th on are canonical
abbrev pub rest : ℕ → List ℕ → ℕ → Bool
rest count s i = all_canonical (entries_from (count - i) s (place i))

module _ (count : ℕ) (s : List ℕ) (i : ℕ) where
  pub rest_more : i < count → rest count s i ≡ (canonical (entry_at s (place i)) && rest count s (i + 1))
  unfolding entries_from all_canonical
  rest_more h =
      let one : count - i ≡ suc (count - (i + 1)) = omega arith in
      let next : place i + entry_size ≡ place (i + 1) = omega arith in
      rw (one, next)

  pub rest_none : count ≤ i → rest count s i ≡ true
  unfolding entries_from all_canonical
  rest_none h =
      let none : count - i ≡ 0 = omega arith in
      rw none
