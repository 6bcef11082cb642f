-- The code's six tests are the definition's. Assumes nothing.
use Rattle.std.proofs.Common.{refl}
use Rattle.cigar.specs.Elements.{is_letter}
use Rattle.letters.proofs.KnownTest.passes.Goals as goal

pub returns : goal.returns
unfolding is_letter
returns c = refl
