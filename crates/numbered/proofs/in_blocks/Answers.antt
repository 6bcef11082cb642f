-- Two stretches that overlap make one (`stretched`). Assumes nothing.
use Rattle.std.proofs.Common.{◌&&◌, ◌∙◌, ap₂, arith}
use Rattle.numbered.specs.laws.All.{stretched}
use Rattle.numbered.proofs.in_blocks.Goals as goal

pub returns : goal.returns
returns g c = c.with_bits.ensures ∙ ap₂ ◌&&◌ c.steps_in-front.ensures c.steps_in-back.ensures ∙ stretched _ _ _ _ (omega arith) (omega arith)
