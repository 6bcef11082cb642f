-- After each turn the flag and the bits are what `all_below` says of the segments passed. Assumes nothing.
use Rattle.std.proofs.Common.{refl, ◌∙◌}
use Rattle.numbered.specs.laws.All.{from_none, from_more}
use Rattle.stepping.specs.laws.OneStep.{within_none}
use Rattle.stepping.proofs.steps_in.Goals as goal

pub loop-i-init : goal.loop-i-init
loop-i-init g c = (from_none _ _, λ k. within_none k ∙ from_none _ _)

pub loop-i-preserved : goal.loop-i-preserved
loop-i-preserved g c =
    let kept = c.loop-i.invariant in
    (c.one_on-seen.ensures.same_value ∙ from_more _ _ _ c.loop-i.auto.i kept.0 refl, λ k. c.one_on-seen.ensures.by_index k ∙ from_more _ _ _ c.loop-i.auto.i (kept.1 k) refl)
