-- Where the row has a block, all its words lie in it.
use borrow.Author.Tests.{lt-ltb, le-ltb}
use Rattle.rows.specs.Rows.{word_at}
use Rattle.rows.proofs.word.Goals as goal

pub returns-then-row-lt-BLOCK : goal.returns-then-row-lt-BLOCK
unfolding word_at
returns-then-row-lt-BLOCK c = rw (lt-ltb _ _ c.if-row-lt-BLOCK.true)

pub returns : goal.returns
unfolding word_at
returns c = rw (le-ltb _ _ c.if-row-lt-BLOCK.false) c.u32_at.ensures
