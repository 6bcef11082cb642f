-- After each turn the bits are what `all_below` says of the lanes passed. Assumes nothing.
use Rattle.std.proofs.Common.{refl, ◌∙◌}
use Rattle.segments.specs.laws.Gathering.{all_none, all_more}
use Rattle.stepping.specs.laws.OneStep.{within_none}
use Rattle.lanes.proofs.all_bits.Goals as goal

pub loop-lane-init : goal.loop-lane-init
loop-lane-init c = λ k. within_none k ∙ all_none _

pub loop-lane-preserved : goal.loop-lane-preserved
loop-lane-preserved c = λ k. c.with_bits-bits.ensures k ∙ all_more _ _ (c.loop-lane.invariant k) refl
