-- `journal::is_headed` meets its contract: the tests are those of `is_headed`. Assumes nothing.
use Rattle.std.proofs.Common.{lt-ltb, le-ltb}
use Rattle.journal.specs.Logs.{is_headed}
use Rattle.journal.proofs.is_headed.Goals as goal

pub returns-then-used-lt-ENTRIES_AT : goal.returns-then-used-lt-ENTRIES_AT
unfolding is_headed
returns-then-used-lt-ENTRIES_AT c = rw (lt-ltb _ _ c.if-used-lt-ENTRIES_AT.true)

pub returns : goal.returns
unfolding is_headed
returns c = rw (le-ltb _ _ c.if-used-lt-ENTRIES_AT.false, c.is_marked-marked.ensures, c.u16_at-version.ensures.value)
