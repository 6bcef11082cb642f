-- `journal::are_canonical` meets its contract: the loop keeps that all entries are right just where those that are left are. Assumes nothing.
use Rattle.std.proofs.Common.{◌≡◌, Bool, ◌&&◌, ◌+◌, sym, ap, ◌∙◌}
use Rattle.entries.specs.Entries.{entry_at}
use Rattle.canonical.specs.Canonical.{canonical}
use Rattle.journal.specs.Layout.{entries_at}
use Rattle.journal.specs.Logs.{entries_from, all_canonical}
use Rattle.journal.proofs.Walk.{place, rest, rest_more, rest_none}
use Rattle.journal.proofs.are_canonical.Goals as goal
use Rattle.journal.proofs.are_canonical.Goals.{After-is_canonical}

-- the entry at the place is judged before those behind it
left : (c : After-is_canonical) → all_canonical (entries_from c.args.count c.args.log.now entries_at) ≡ (c.is_canonical.result && rest c.args.count c.args.log.now (c.loop-i.i + 1))
left c =
    let a = c.args in
    let i = c.loop-i.i in
    let judged : canonical (entry_at a.log.now (place i)) ≡ c.is_canonical.result = sym (c.is_canonical.ensures ∙ ap canonical c.entry_at.ensures) in
    c.loop-i.invariant ∙ rest_more a.count a.log.now i c.loop-i-test.true ∙ ap (λ (b : Bool). b && rest a.count a.log.now (i + 1)) judged

pub returns-then-not-is_canonical : goal.returns-then-not-is_canonical
returns-then-not-is_canonical c = sym (rw c.if-not-is_canonical.true at (left (goal.at.returns-then-not-is_canonical c).After-is_canonical))

pub loop-i-preserved : goal.loop-i-preserved
loop-i-preserved c = rw c.if-not-is_canonical.false at (left (goal.at.loop-i-preserved c).After-is_canonical)

pub returns : goal.returns
returns c = sym (c.loop-i.invariant ∙ rest_none c.args.count c.args.log.now c.loop-i.i c.loop-i-test.false)
