-- After the turns so far the flag says whether the positions before i fall nowhere. Assumes nothing.
use Rattle.std.specs.Prelude.{◌≡◌, ◌-◌, ◌≤◌, length}
use Rattle.segments.specs.Tables.{all_below}
use Rattle.worklist.specs.Worklist.{positions_of, rises_at}
use Rattle.worklist.proofs.order.never_falls.Given as goal

abbrev pub invariant-loop-i : goal.invariant-loop-i
invariant-loop-i l = record {
  within : l.i - 1 ≤ length l.slots - 1;
  so_far : l.rose ≡ all_below (rises_at (positions_of l.slots)) (l.i - 1);
}
