-- `filling::fill_text` meets its contract: the tables with what is left put in stay those promised: a turn puts in the first of what is left, or on strand -1 the last (`fill_turn`). Assumes nothing.
use Rattle.refusals.specs.Outcome.{Ok}
use Prim.Native.Nat.{◌-◌, ◌≤◌}
use mathlib.Core.Path.{◌≡◌}
use lib.ListN.{length, drop}
use Rattle.refusals.specs.Numbers.{most_segments}
use Rattle.cigar.specs.Text.{read_all, elements_in}
use Rattle.reading.specs.Tallies.{tallied, Bounded}
use Rattle.segments.specs.Tables.{tables}
use Rattle.filling.specs.Filling.{Long, fill, ordered, UpTo}
use Rattle.filling.proofs.Fills.{left_from}
use Rattle.filling.proofs.fill_text.Given as goal

abbrev pub invariant-loop-step : goal.invariant-loop-step
invariant-loop-step l =
    (l.at ≤ length l.text) × Long (tables l.genome l.transcript l.letters) × Bounded l.sums × UpTo l.from l.sums
    × (tallied l.sums (read_all (most_segments - l.sums.count) (drop l.at l.text)) ≡ Ok l.to)
    × (fill (tables l.initial.genome l.initial.transcript l.initial.letters) l.from (ordered l.forward (elements_in (read_all (most_segments - l.from.count) l.text)))
    ≡ fill (tables l.genome l.transcript l.letters) (left_from l.forward l.from l.sums) (ordered l.forward (elements_in (read_all (most_segments - l.sums.count) (drop l.at l.text)))))

abbrev pub decreases-loop-step : goal.decreases-loop-step
decreases-loop-step l = length l.text - l.at
