-- The test is that of the definition.
use borrow.Author.Tests.{le-leb, lt-leb}
use Rattle.comparing.specs.Changes.{total_of}
use Rattle.comparing.proofs.lent.total.Goals as goal

pub returns-then-count-ge-MOST_STARTS : goal.returns-then-count-ge-MOST_STARTS
unfolding total_of
returns-then-count-ge-MOST_STARTS c = rw (← c.answer-count.ensures, le-leb _ _ c.if-count-ge-MOST_STARTS.true)

pub returns : goal.returns
unfolding total_of
returns c = rw (← c.answer-count.ensures, lt-leb _ _ c.if-count-ge-MOST_STARTS.false)
