-- Two stretches that overlap make one (`stretched`). Assumes nothing.
use native.Mathlib.Omega.{arith}
use mathlib.Core.Bool.{◌&&◌}
use mathlib.Core.Path.{ap₂, ◌∙◌}
use Rattle.numbered.specs.laws.All.{stretched}
use Rattle.together.proofs.ends_of.Goals as goal

pub returns-then-count-lt8 : goal.returns-then-count-lt8
returns-then-count-lt8 c = λ k. c.with_bits.ensures k ∙ ap₂ ◌&&◌ (c.ends_in-front.ensures k) (c.ends_in-back.ensures k) ∙ stretched _ _ _ _ (omega arith) (omega arith)

pub returns : goal.returns
returns c = λ k. c.with_bits-2.ensures k ∙ ap₂ ◌&&◌ (c.ends_in-front-2.ensures k) (c.ends_in-back-2.ensures k) ∙ stretched _ _ _ _ (omega arith) (omega arith)
