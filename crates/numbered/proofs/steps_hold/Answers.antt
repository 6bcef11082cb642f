-- Two stretches that overlap make one (`stretched`). Assumes nothing.
use Rattle.std.proofs.Common.{◌&&◌, ◌∙◌, ap₂, arith}
use Rattle.numbered.specs.laws.All.{stretched}
use Rattle.numbered.proofs.steps_hold.Goals as goal

pub returns-then-to-lt16 : goal.returns-then-to-lt16
returns-then-to-lt16 c = ap₂ ◌&&◌ c.stepped_in-front.ensures c.stepped_in-back.ensures ∙ stretched _ _ _ _ (omega arith) (omega arith)

pub returns : goal.returns
returns c = c.with_bits.ensures ∙ ap₂ ◌&&◌ c.steps_in-front.ensures c.steps_in-back.ensures ∙ stretched _ _ _ _ (omega arith) (omega arith)
