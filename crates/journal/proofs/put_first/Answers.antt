-- `journal::put_first` meets its contract: the header is stored, and the entry behind it. Assumes nothing.
use Rattle.refusals.specs.Outcome.{Ok}
use mathlib.Core.Path.{◌≡◌, refl, sym, ap}
use mathlib.Core.List.{◌++◌}
use Prim.Native.Nat.{◌+◌}
use borrow.Author.Tests.{lt-ltb, le-ltb}
use lib.ListN.{length}
use Rattle.journal.specs.Layout.{entries_at}
use Rattle.entries.specs.Layout.{entry_size}
use Rattle.entries.specs.Entries.{entry_bytes}
use Rattle.journal.specs.Logs.{header_bytes}
use Rattle.entries.specs.laws.RoundTrips.{entry_length}
use Rattle.entries.specs.declared.Entry.{Entry}
use Rattle.entries.proofs.Stores.{then_stored}
use Rattle.journal.proofs.put_first.Goals as goal

first_length : (e : Entry) → 0 + length (header_bytes ++ entry_bytes e) ≡ entries_at + entry_size
first_length e = rw (entry_length e)

pub returns-then-log-size : goal.returns-then-log-size
returns-then-log-size c =
    let a = c.args in
    rw (entry_length a.entry, lt-ltb _ _ c.if-log-size.true) record { value = refl; log_after = refl }

pub returns : goal.returns
returns c =
    let a = c.args in
    rw (entry_length a.entry, le-ltb _ _ c.if-log-size.false) record { value = ap Ok (sym (first_length a.entry)); log_after = then_stored header_bytes (entry_bytes a.entry) a.log.now 0 c.put_header.ensures c.put_entry.ensures }
