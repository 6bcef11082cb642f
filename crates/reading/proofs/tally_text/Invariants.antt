-- `reading::tally_text` meets its contract: the loop keeps that the whole tally is that of the text that is left, from the sums so far. Assumes nothing.
use mathlib.Core.Path.{◌≡◌}
use Prim.Native.Nat.{◌-◌, ◌≤◌}
use lib.ListN.{length, drop}
use Rattle.refusals.specs.Numbers.{most_segments}
use Rattle.cigar.specs.Text.{read_all}
use Rattle.reading.specs.Tallies.{tallied, Bounded}
use Rattle.reading.proofs.tally_text.Given as goal

abbrev pub invariant-loop-step : goal.invariant-loop-step
invariant-loop-step l =
    (l.at ≤ length l.text) × Bounded l.sums
    × (tallied l.initial.sums (read_all (most_segments - l.initial.sums.count) l.text) ≡ tallied l.sums (read_all (most_segments - l.sums.count) (drop l.at l.text)))

abbrev pub decreases-loop-step : goal.decreases-loop-step
decreases-loop-step l = length l.text - l.at
