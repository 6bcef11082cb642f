-- `card::strand_of` meets its contract: the branch says whether the byte is 0, and by that alone `strandOf` goes. Assumes nothing.
use borrow.Author.Tests.{eq-eqb, ne_eqb}
use Rattle.card.proofs.strand_of.Goals as goal

pub returns-then-b-eq0 : goal.returns-then-b-eq0
returns-then-b-eq0 c = rw (eq-eqb _ _ c.if-b-eq0.true)

pub returns-else-b-eq0 : goal.returns-else-b-eq0
returns-else-b-eq0 c = rw (ne_eqb _ _ c.if-b-eq0.false)
