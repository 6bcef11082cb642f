-- One arm for each end: the machine's t - 1 and t are the definition's. Assumes nothing.
use mathlib.Core.Path.{refl}
use native.Mathlib.Omega.{arith}
use Rattle.whole.specs.laws.Whole.{read}
use Rattle.whole.specs.laws.Machine.{entry}
use Rattle.segments.proofs.Bounds.{fits_37, before_37, entry_37}
use Rattle.segments.proofs.beside_at.Goals as goal

pub overflow_sub-before : goal.overflow_sub-before
overflow_sub-before c =
    let t = c.ranges.t in
    simp (entry t) (fits_37 (before_37 t))

pub returns-in-Start : goal.returns-in-Start
returns-in-Start c =
    let t = c.ranges.t in
    simp (entry t, read (fits_37 (before_37 t)), c.in-Start.is)
    record { said = refl; small = record { place_small = before_37 t; offset_small = omega arith } }

pub returns-in-Stop : goal.returns-in-Stop
returns-in-Stop c =
    let t = c.ranges.t in
    simp (entry t, c.in-Stop.is) record { said = refl; small = record { place_small = entry_37 t; offset_small = omega arith } }
