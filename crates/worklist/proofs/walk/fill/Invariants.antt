-- The first i slots are answered, and the walk stands where it stands after them. What is left of the list falls.
use Rattle.std.proofs.Common.{◌≡◌, length, ◌≤◌}
use Rattle.std.specs.Prelude.{map}
use Rattle.segments.specs.Tables.{tables}
use Rattle.spots.specs.Aligned.{aligned_by}
use Rattle.worklist.specs.Worklist.{positions_of, steps_after}
use Rattle.worklist.specs.Walking.{track_by, answered_by}
use Rattle.worklist.proofs.Front.{front}
use Rattle.worklist.proofs.walk.fill.Given as goal

abbrev pub invariant-loop-slot : goal.invariant-loop-slot
invariant-loop-slot l = record {
  within : l.slot-index ≤ length l.initial.slots;
  stands : l.index ≡ steps_after (track_by l.at l.genome) (positions_of l.initial.slots) l.slot-index;
  filled : l.slots ≡ front l.initial.slots (map (answered_by (aligned_by l.at (tables l.genome l.transcript l.letters) l.exons)) l.initial.slots) l.slot-index;
}
