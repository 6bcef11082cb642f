-- `playback::differing::measure` meets its contract. The loop's invariant: the total and the size are those of the entries passed.
-- Assumes nothing.
use mathlib.Core.Path.{◌≡◌}
use Prim.Native.Nat.{◌*◌, ◌≤◌}
use lib.ListN.{length}
use Rattle.holding.specs.Holding.{lent}
use Rattle.playback.specs.Lines.{lines_of, most_line}
use Rattle.playback.proofs.Walk.{found}
use Rattle.playback.proofs.differing.measure.Given as goal

abbrev pub invariant-loop-i : goal.invariant-loop-i
invariant-loop-i l =
    (l.total ≤ l.i) × (l.size ≤ most_line * l.i)
    × (l.total ≡ length (found (lent l.head l.genome l.transcript l.letters l.exons) l.log l.i))
    × (l.size ≡ length (lines_of (found (lent l.head l.genome l.transcript l.letters l.exons) l.log l.i)))
