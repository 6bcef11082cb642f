-- After each turn the bits are what `all_below` says of the lanes passed. Assumes nothing.
use Rattle.std.proofs.Common.{◌≡◌, ℕ, get_or}
use Rattle.segments.specs.Tables.{all_below}
use Rattle.stepping.specs.Steps.{within}
use Rattle.lanes.proofs.all_bits.Given as goal

abbrev pub invariant-loop-lane : goal.invariant-loop-lane
invariant-loop-lane l = (k : ℕ) → within k l.bits ≡ all_below (λ j. within k (get_or l.lanes j 0)) l.lane-index
