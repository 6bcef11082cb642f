-- `lines::put_lines` meets its contract. The loop's invariant: the lines of the segments passed are put, and what is left has room. Assumes nothing.
use Rattle.std.proofs.Common.{arith}
use Rattle.segments.specs.Tables.{tables}
use Rattle.card.specs.laws.Putting.{none_put, then_put}
use Rattle.lines.proofs.Laws.{lines_none, lines_more}
use Rattle.lines.proofs.put_lines.Goals as goal

pub loop-i-init : goal.loop-i-init
loop-i-init c =
    let a = c.args in
    (omega arith, omega arith, rw (lines_none (tables a.genome.now a.transcript.now a.letters.now) 0) (none_put a.buffer.now a.from))

pub loop-i-preserved : goal.loop-i-preserved
loop-i-preserved c =
    let a = c.args in
    let l = c.loop-i in
    (omega arith, omega arith, rw (lines_more (tables a.genome.now a.transcript.now a.letters.now) l.i) (then_put l.invariant.2 c.put_line-at.ensures.put))
