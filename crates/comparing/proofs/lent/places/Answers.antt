-- The tests are those of the definition.
use borrow.Author.Tests.{eq-eqb, ne_eqb, lt-ltb, le-ltb}
use Rattle.comparing.specs.Changes.{places_of}
use Rattle.comparing.proofs.lent.places.Goals as goal

pub returns-then-table-eq0 : goal.returns-then-table-eq0
unfolding places_of
returns-then-table-eq0 c = rw (eq-eqb _ _ c.if-table-eq0.true)

pub returns-then-table-lt3 : goal.returns-then-table-lt3
unfolding places_of
returns-then-table-lt3 c = rw (ne_eqb _ _ c.if-table-eq0.false, lt-ltb _ _ c.if-table-lt3.true)

pub returns-then-table-lt5 : goal.returns-then-table-lt5
unfolding places_of
returns-then-table-lt5 c = rw (ne_eqb _ _ c.if-table-eq0.false, le-ltb _ _ c.if-table-lt3.false, lt-ltb _ _ c.if-table-lt5.true)

pub returns : goal.returns
unfolding places_of
returns c = rw (ne_eqb _ _ c.if-table-eq0.false, le-ltb _ _ c.if-table-lt3.false, le-ltb _ _ c.if-table-lt5.false)
