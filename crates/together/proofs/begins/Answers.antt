-- The two tests are the definition's. Assumes nothing.
use borrow.Author.Rules.{rules}
use Rattle.together.specs.Ends.{begin}
use Rattle.together.proofs.begins.Goals as goal

pub returns : goal.returns
unfolding begin
returns c = search rules
