-- `playback::differing::put_lines` meets its contract. The loop's invariant: the lines of the entries passed are put.
-- Assumes nothing.
use Rattle.holding.specs.Holding.{lent}
use Rattle.card.specs.Putting.{Put}
use Rattle.playback.specs.Lines.{lines_of}
use Rattle.playback.proofs.Walk.{found}
use Rattle.playback.proofs.differing.put_lines.Given as goal

abbrev pub invariant-loop-index : goal.invariant-loop-index
invariant-loop-index l =
    Put l.initial.buffer l.buffer 0 l.end (lines_of (found (lent l.head l.genome l.transcript l.letters l.exons) l.log l.index))
