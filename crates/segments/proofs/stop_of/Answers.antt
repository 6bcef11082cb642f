-- A sure spot stays; of another the machine's place and 1 are the definition's sum. Assumes nothing.
use native.Mathlib.Omega.{arith}
use mathlib.Core.Path.{refl}
use Rattle.whole.specs.laws.Whole.{read, fits_38}
use Rattle.segments.specs.Places.{stop_of}
use Rattle.segments.specs.laws.Sizes.{wider}
use Rattle.segments.proofs.Bounds.{fits_37, next_38}
use Rattle.segments.proofs.stop_of.Goals as goal

pub overflow_add-next : goal.overflow_add-next
overflow_add-next c =
    let place = c.requires.place_small in
    rw (read (fits_37 place)) (fits_38 (next_38 place))

pub returns-then-start : goal.returns-then-start
unfolding stop_of
returns-then-start c = record { said = rw c.if-start.true refl; small = wider c.requires }

pub returns-else-start : goal.returns-else-start
unfolding stop_of
returns-else-start c =
    let place = c.requires.place_small in
    simp (c.if-start.false, read (fits_37 place), read (fits_38 (next_38 place)))
    record { said = refl; small = record { place_small = next_38 place; offset_small = omega arith } }
