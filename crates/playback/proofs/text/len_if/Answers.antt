-- `playback::text::len_if` meets its contract: one line, or none.
-- Assumes nothing.
use Rattle.playback.specs.laws.Lines.{one_line, no_line}
use borrow.Author.Rules.{rules}
use Rattle.playback.proofs.text.len_if.Goals as goal

pub returns-then-listed : goal.returns-then-listed
returns-then-listed c = rw (c.if-listed.true, one_line c.args.i) c.line_len.ensures

pub returns-else-listed : goal.returns-else-listed
returns-else-listed c = rw (c.if-listed.false, no_line) (search rules)
