-- `cigar::count_elements` meets its contract. The loop's invariant: the whole text has n elements more than what is left. An arm of the `match` is given that the step is the constructor
-- at the bound fields (`.next .given .1`), so each arm cites the law for that case.
-- Assumes nothing.
use mathlib.Core.Path.{◌≡◌}
use Prim.Native.Nat.{◌-◌, ◌≤◌}
use lib.ListN.{length, drop}
use Rattle.cigar.specs.Text.{read_all, counted_of}
use Rattle.refusals.specs.Numbers.{most_segments}
use Rattle.cigar.proofs.Counting.{counted_from}
use Rattle.cigar.proofs.count_elements.Given as goal

abbrev pub invariant-loop-step : goal.invariant-loop-step
invariant-loop-step l =
    (l.n ≤ most_segments) × (l.at ≤ length l.text) × (counted_of (read_all most_segments l.text) ≡ counted_from l.n (read_all (most_segments - l.n) (drop l.at l.text)))

abbrev pub decreases-loop-step : goal.decreases-loop-step
decreases-loop-step l = length l.text - l.at
