-- After each turn the bits are 0 exactly where `all_below` says that the steps passed are no more than they may be. Assumes nothing.
use Rattle.std.proofs.Common.{◌≡◌, eqb}
use Rattle.segments.specs.Tables.{all_below}
use Rattle.numbered.specs.Stretches.{from}
use Rattle.numbered.specs.Numbers.{stepped_at}
use Rattle.numbered.proofs.steps_in.Given as goal

abbrev pub invariant-loop-i : goal.invariant-loop-i
invariant-loop-i l = eqb l.wrong 0 ≡ all_below (from l.first (stepped_at l.letters l.exons l.low l.high)) l.i
