-- After each turn the bits are what `all_below` says of the ends passed. Assumes nothing.
use mathlib.Core.Path.{◌∙◌}
use Rattle.numbered.specs.laws.All.{from_none, from_more}
use Rattle.stepping.specs.laws.OneStep.{within_none}
use Rattle.together.proofs.ends_in.Goals as goal

pub loop-i-init : goal.loop-i-init
loop-i-init c = λ k. within_none k ∙ from_none _ _

pub loop-i-preserved : goal.loop-i-preserved
loop-i-preserved c =
    λ k. c.with_bits-bits.ensures k ∙ from_more _ _ _ c.loop-i.auto.i (c.loop-i.invariant k) (c.with_bits-ends.ensures k)
