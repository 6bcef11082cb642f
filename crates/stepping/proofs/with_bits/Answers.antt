-- Two numbers are within k bits exactly where their bits together are (`within_or`). Assumes nothing.
use Rattle.stepping.specs.laws.OneStep.{within_or}
use Rattle.stepping.proofs.with_bits.Goals as goal

pub returns : goal.returns
returns c k = within_or k c.args.a c.args.b
