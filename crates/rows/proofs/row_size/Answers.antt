-- Whole blocks, and the test is that of the definition.
use borrow.Author.Tests.{lt-ltb, le-ltb}
use Rattle.rows.specs.Rows.{row_size}
use borrow.Author.Rules.{rules}
use Rattle.rows.proofs.row_size.Goals as goal

pub returns-then-left-whole : goal.returns-then-left-whole
unfolding row_size
returns-then-left-whole c = record { value = rw (← c.word.ensures, lt-ltb _ _ c.if-left-whole.true); within = search rules }

pub returns : goal.returns
unfolding row_size
returns c = record { value = rw (← c.word.ensures, le-ltb _ _ c.if-left-whole.false); within = search rules }
