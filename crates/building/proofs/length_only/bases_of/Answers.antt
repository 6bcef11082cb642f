-- `building::length_only::bases_of` meets its contract: a length that is not negative is its own size, which the cast to 64 bits asks for (`cast_asks`) and keeps. Assumes nothing.
use native.Mathlib.Omega.{arith}
use Rattle.whole.specs.laws.Whole.{order, read}
use Rattle.whole.specs.laws.Machine.{cast_asks}
use Rattle.building.proofs.length_only.bases_of.Goals as goal

pub overflow_cast-result : goal.overflow_cast-result
overflow_cast-result c =
    let (positive, small) = cast_asks c.args.length c.ranges.length (omega order) in
    simp (read c.ranges.length) (positive, omega (arith, small.fits))

pub returns : goal.returns
returns c = simp (read c.ranges.length)
