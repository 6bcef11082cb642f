-- What is left of a letter's number above an M's has one bit at most exactly where the letter is common (`common_is`). Assumes nothing.
use Rattle.std.proofs.Common.{◌+◌, ◌-◌, ◌%◌, ◌^◌, Bool, ◌&&◌, ap, ◌∙◌, arith}
use Rattle.cigar.specs.Elements.{letter_m}
use Rattle.stepping.specs.Steps.{within}
use Rattle.stepping.specs.laws.OneStep.{within_or}
use Rattle.letters.proofs.OneLetter.{common_is}
use Rattle.letters.proofs.common_letter_on.Goals as goal

pub returns : goal.returns
returns c =
    let a = c.args in
    rw c.unless_byte.ensures
    (within_or 1 a.bits _
    ∙ ap (λ (b : Bool). within 1 a.bits && b) (common_is a.letter ((a.letter + (2 ^ 8 - letter_m)) % 2 ^ 8) c.ranges.letter.fits (omega arith) (omega (arith, c.ranges.letter.fits))))
