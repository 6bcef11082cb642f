-- After each turn the flag is what `all_below` says of the steps from the first on. Assumes nothing.
use Rattle.numbered.specs.laws.All.{from_none, from_more}
use Rattle.numbered.proofs.stepped_in.Goals as goal

pub loop-i-init : goal.loop-i-init
loop-i-init c = from_none _ _

pub loop-i-preserved : goal.loop-i-preserved
loop-i-preserved c =
    from_more _ _ _ c.loop-i.auto.i c.loop-i.invariant c.is_stepped-ok.ensures
