-- After each turn the bits are 0 exactly where `all_below` says that the steps passed are no more than they may be. Assumes nothing.
use Rattle.std.proofs.Common.{refl, ◌∙◌}
use Rattle.numbered.specs.laws.All.{from_none, from_more}
use Rattle.numbered.proofs.steps_in.Goals as goal

pub loop-i-init : goal.loop-i-init
loop-i-init c = from_none _ _

pub loop-i-preserved : goal.loop-i-preserved
loop-i-preserved c =
    c.step_on-wrong.ensures ∙ from_more _ _ _ c.loop-i.auto.i c.loop-i.invariant refl
