-- `playback::text::put_if` meets its contract: one line is put, or none.
-- Assumes nothing.
use mathlib.Core.Path.{sym}
use Rattle.card.specs.laws.Putting.{none_put, put_as, put_length}
use Rattle.playback.specs.laws.Lines.{one_line, no_line}
use Rattle.playback.proofs.text.put_if.Goals as goal

pub put_line-requires : goal.put_line-requires
put_line-requires c = rw (c.if-listed.true, one_line c.args.i) at c.requires

pub shape_of-buffer-then-listed : goal.shape_of-buffer-then-listed
shape_of-buffer-then-listed c = put_length c.put_line.ensures

pub returns-then-listed : goal.returns-then-listed
returns-then-listed c =
    rw c.if-listed.true (put_as (sym (one_line c.args.i)) c.put_line.ensures)

pub returns : goal.returns
returns c =
    let a = c.args in
    rw (c.if-listed.false, no_line) (none_put a.buffer.now a.at)
