-- The test is that of the definition.
use borrow.Author.Tests.{lt-ltb, le-ltb}
use Rattle.comparing.specs.Bam.{word_or}
use Rattle.comparing.proofs.slices.word_at.Goals as goal

pub returns-then-i-layout : goal.returns-then-i-layout
unfolding word_or
returns-then-i-layout c = rw (lt-ltb _ _ c.if-i-layout.true) c.u32_at.ensures

pub returns : goal.returns
unfolding word_or
returns c = rw (le-ltb _ _ c.if-i-layout.false)
