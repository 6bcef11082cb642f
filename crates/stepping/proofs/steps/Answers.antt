-- Two stretches that overlap make one (`stretched`), of the flag and of the bits alike. Assumes nothing.
use Rattle.std.proofs.Common.{◌&&◌, ◌∙◌, ap₂, arith}
use Rattle.numbered.specs.laws.All.{stretched}
use Rattle.stepping.proofs.steps.Goals as goal

pub returns : goal.returns
returns c =
    let front = c.steps_in-front.ensures in
    let back = c.steps_in-back.ensures in
    record {
      same_value = c.both_seen.ensures.same_value ∙ ap₂ ◌&&◌ front.same_value back.same_value ∙ stretched _ _ _ _ (omega arith) (omega arith);
      by_index = λ k. c.both_seen.ensures.by_index k ∙ ap₂ ◌&&◌ (front.by_index k) (back.by_index k) ∙ stretched _ _ _ _ (omega arith) (omega arith);
    }
