-- The number of a strand is 1 just where the strand is 1. Assumes nothing.
use Rattle.std.specs.Prelude.{Bool, true, false, ◌≡◌, refl, pos}
use Rattle.whole.specs.Whole.{eq_z}
use Rattle.transcript.specs.Heads.{strand_of}

pub plus_is : (forward : Bool) → eq_z (strand_of forward) (pos 1) ≡ forward
plus_is true = refl
plus_is false = refl
