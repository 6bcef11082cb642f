-- `journal::are_canonical` meets its contract: the loop keeps that all entries are right just where those that are left are. Assumes nothing.
use Rattle.std.proofs.Common.{◌≡◌}
use Rattle.journal.specs.Layout.{entries_at}
use Rattle.journal.specs.Logs.{entries_from, all_canonical}
use Rattle.journal.proofs.Walk.{rest}
use Rattle.journal.proofs.are_canonical.Given as goal

abbrev pub invariant-loop-i : goal.invariant-loop-i
invariant-loop-i l = all_canonical (entries_from l.count l.log entries_at) ≡ rest l.count l.log l.i
