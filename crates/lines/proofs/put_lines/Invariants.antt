-- `lines::put_lines` meets its contract. The loop's invariant: the lines of the segments passed are put, and what is left has room.
-- Assumes nothing.
use Rattle.std.proofs.Common.{◌+◌, ◌*◌, ◌≤◌}
use Rattle.segments.specs.Tables.{tables}
use Rattle.lines.specs.Tables.{lines_from}
use Rattle.lines.specs.Lengths.{most_line}
use Rattle.card.specs.Putting.{Put}
use Rattle.lines.proofs.put_lines.Given as goal

abbrev pub invariant-loop-i : goal.invariant-loop-i
invariant-loop-i l =
    (l.i ≤ l.count) × (l.at ≤ l.from + most_line * l.i) × Put l.initial.buffer l.buffer l.from l.at (lines_from (tables l.genome l.transcript l.letters) 0 l.i)
