-- `journal::put_next` meets its contract: the size is known first, so that a refusal stores nothing. Assumes nothing.
use Rattle.refusals.specs.Outcome.{Ok}
use mathlib.Core.Path.{refl, sym, ap}
use Prim.Native.Nat.{ℕ, ◌+◌, ◌≤◌, ◌<◌}
use native.Mathlib.Omega.{arith}
use borrow.Author.Tests.{lt-ltb, le-ltb}
use Rattle.refusals.specs.Numbers.{most_log}
use Rattle.entries.specs.Layout.{entry_size}
use Rattle.entries.specs.laws.RoundTrips.{entry_length}
use Rattle.journal.proofs.put_next.Goals as goal

pub returns-then-used : goal.returns-then-used
returns-then-used c =
    let a = c.args in
    let large : most_log < a.used + entry_size = omega arith in
    rw (entry_length a.entry, lt-ltb _ _ large) record { value = refl; log_after = refl }

pub returns-then-log-size : goal.returns-then-log-size
returns-then-log-size c =
    let a = c.args in
    let small : a.used + entry_size ≤ most_log = omega arith in
    rw (entry_length a.entry, le-ltb _ _ small, lt-ltb _ _ c.if-log-size.true) record { value = refl; log_after = refl }

pub returns : goal.returns
returns c =
    let a = c.args in
    let small : a.used + entry_size ≤ most_log = omega arith in
    rw (entry_length a.entry, le-ltb _ _ small, le-ltb _ _ c.if-log-size.false) record { value = ap (λ (n : ℕ). Ok (a.used + n)) (sym (entry_length a.entry)); log_after = c.put_entry.ensures }
