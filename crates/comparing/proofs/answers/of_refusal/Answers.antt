-- A number of 32 bits is itself in 64.
use Rattle.whole.specs.laws.Machine.{entry}
use Rattle.comparing.proofs.answers.of_refusal.Goals as goal

pub returns : goal.returns
returns c = simp (entry c.ranges.number) at c.of_numbers.ensures
