-- After each turn the flag is what `all_below` says of the letters from the first on. Assumes nothing.
use Rattle.numbered.specs.laws.All.{from_none, from_more}
use Rattle.letters.proofs.all_in.Goals as goal

pub loop-i-init : goal.loop-i-init
loop-i-init g c = from_none _ _

pub loop-i-preserved : goal.loop-i-preserved
loop-i-preserved g c = from_more _ _ _ c.loop-i.auto.i c.loop-i.invariant c.passes-ok.ensures
