-- The test is that of the definition.
use borrow.Author.Tests.{lt-ltb, le-ltb}
use Rattle.comparing.specs.Changes.{damage_words}
use Rattle.comparing.proofs.lent.of_damage.Goals as goal

pub returns-then-size-places : goal.returns-then-size-places
unfolding damage_words
returns-then-size-places c =
    let places_is = simp c.size-2.ensures at c.places.ensures in
    rw (← c.size.ensures, ← places_is, lt-ltb _ _ c.if-size-places.true) c.of_refusal.ensures

pub returns : goal.returns
unfolding damage_words
returns c =
    let places_is = simp c.size-2.ensures at c.places.ensures in
    rw (← c.size.ensures, ← places_is, le-ltb _ _ c.if-size-places.false) c.of_refusal-2.ensures
