-- A log by what the code says of it: its entries are as many as they are read to be, and stand where they are looked for.
-- Assumes nothing.
use Rattle.refusals.specs.declared.Refusal.{Refusal}
use mathlib.Core.Path.{◌≡◌, refl, sym, ap, ◌∙◌}
use mathlib.Core.List.{List}
use Prim.Native.Nat.{ℕ, ◌+◌, ◌*◌, ◌≤◌}
use native.Mathlib.Omega.{arith}
use lib.ListN.{length}
use Rattle.refusals.specs.Outcome.{Outcome, Ok, Err}
use Rattle.journal.specs.Layout.{entries_at}
use Rattle.entries.specs.Layout.{entry_size}
use Rattle.journal.specs.Logs.{entries_from, count_of, read_log, answer_of}
use Rattle.journal.specs.laws.LogTrips.{from_length, read_means}
use Rattle.entries.specs.declared.Entry.{Entry}
use Rattle.playback.specs.Lines.{most_entries}

pub record Reads (log : List ℕ) (count : ℕ) : Type 0 where
  pub read : read_log log ≡ Ok (entries_from count log entries_at)
  pub few : count ≤ most_entries
  pub within : entries_at + entry_size * count ≤ length log

pub reads : (log : List ℕ) (count : ℕ) → answer_of (read_log log) ≡ Ok count → Reads log count
reads log count = go (read_log log) refl
  where
    go : (o : Outcome (List Entry)) → read_log log ≡ o → answer_of o ≡ Ok count → Reads log count
    go (Err k) r e = let z : ◌≡◌ {A = ℕ} 0 1 = cc in absurd (omega arith)
    go (Ok es) r e =
        let k = read_means log es r in
        let many : length es ≡ count = cc in
        let same : count_of (length log) ≡ count = sym (ap length k.are ∙ from_length _ log entries_at) ∙ many in
        record {
          read = r ∙ ap Ok (k.are ∙ ap (λ (n : ℕ). entries_from n log entries_at) same);
          few = omega (arith, k.few, k.headed.size_is);
          within = omega (arith, k.headed.size_is);
        }

pub refuses : (log : List ℕ) (k : Refusal) → answer_of (read_log log) ≡ Err k → read_log log ≡ Err k
refuses log k = go (read_log log)
  where
    go : (o : Outcome (List Entry)) → answer_of o ≡ Err k → o ≡ Err k
    go (Err l) e = let is : l ≡ k = cc in ap Err is
    go (Ok es) e = let z : ◌≡◌ {A = ℕ} 0 1 = cc in absurd (omega arith)
