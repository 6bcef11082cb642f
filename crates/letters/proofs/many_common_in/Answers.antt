-- After each turn the bits are one at most exactly where `all_below` says so of the letters from the first on. Assumes nothing.
use Rattle.std.proofs.Common.{refl, ◌∙◌, arith}
use Rattle.segments.specs.laws.Gathering.{all_done}
use Rattle.stepping.specs.Steps.{within}
use Rattle.numbered.specs.laws.All.{from_none, from_more}
use Rattle.stepping.specs.laws.OneStep.{within_none}
use Rattle.letters.proofs.many_common_in.Goals as goal

pub loop-i-init : goal.loop-i-init
loop-i-init c = within_none 1 ∙ from_none _ _

pub loop-i-preserved : goal.loop-i-preserved
loop-i-preserved c =
    c.common_letter_on-bits.ensures ∙ from_more _ _ _ c.loop-i.auto.i c.loop-i.invariant refl

pub returns : goal.returns
unfolding within
returns c = all_done _ _ _ c.loop-i.invariant (omega arith) (omega arith)
