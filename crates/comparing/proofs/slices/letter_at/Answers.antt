-- The test is that of the definition.
use borrow.Author.Tests.{lt-ltb, le-ltb}
use Rattle.comparing.specs.Bam.{letter_or}
use Rattle.comparing.proofs.slices.letter_at.Goals as goal

pub returns-then-i-elements : goal.returns-then-i-elements
unfolding letter_or
returns-then-i-elements c = rw (lt-ltb _ _ c.if-i-elements.true) c.letter_at.ensures

pub returns : goal.returns
unfolding letter_or
returns c = rw (le-ltb _ _ c.if-i-elements.false)
