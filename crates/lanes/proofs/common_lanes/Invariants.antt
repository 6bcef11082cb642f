-- After each turn the lanes tell of all segments of the blocks passed (`on_stretch`). The last block ends where the segments do. Assumes nothing.
use Rattle.std.proofs.Common.{◌≡◌, ℕ, ◌*◌, min}
use Rattle.segments.specs.Tables.{tables, all_below}
use Rattle.stepping.specs.Steps.{common_same_at, common_within_at}
use Rattle.lanes.specs.Lanes.{lanes_within}
use Rattle.lanes.proofs.common_lanes.Given as goal

abbrev pub invariant-loop-block : goal.invariant-loop-block
invariant-loop-block l =
    (lanes_within 0 l.apart ≡ all_below (common_same_at (tables l.genome l.transcript l.letters)) (min l.count (l.block * 8)))
    × ((k : ℕ) → lanes_within k l.bits ≡ all_below (common_within_at k (tables l.genome l.transcript l.letters)) (min l.count (l.block * 8)))
