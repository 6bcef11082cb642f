-- After each turn the flag is what `all_below` says of the steps from the first on. Assumes nothing.
use Rattle.std.proofs.Common.{◌≡◌}
use Rattle.segments.specs.Tables.{all_below}
use Rattle.numbered.specs.Stretches.{from}
use Rattle.numbered.specs.Numbers.{stepped_at}
use Rattle.numbered.proofs.stepped_in.Given as goal

abbrev pub invariant-loop-i : goal.invariant-loop-i
invariant-loop-i l = l.ok ≡ all_below (from l.first (stepped_at l.letters l.exons l.low l.high)) l.i
