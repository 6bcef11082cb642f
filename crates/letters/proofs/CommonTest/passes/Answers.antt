-- The four tests are the definition's, in its order. Assumes nothing.
use Rattle.std.proofs.Common.{rules}
use Rattle.letters.specs.Letters.{is_common}
use Rattle.letters.proofs.CommonTest.passes.Goals as goal

pub returns : goal.returns
unfolding is_common
returns c = search rules
