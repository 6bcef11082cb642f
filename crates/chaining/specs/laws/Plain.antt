-- A chain whose first step bears no mark keeps the second's. Assumes nothing.
use Rattle.std.specs.Prelude.{◌≡◌, refl}
use Rattle.refusals.specs.Outcome.{Ok, Err, through}
use Rattle.positions.specs.Answers.{unmarked, Answer, after}

pub plain_first : {P : Type 0} (o : Answer P) → through (after unmarked) o ≡ o
plain_first (Ok a) = refl
plain_first (Err k) = refl
