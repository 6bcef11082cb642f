-- Two numbers are 0 exactly where their bits together are (`none_or`). Assumes nothing.
use Rattle.numbered.proofs.OneNumber.{none_or}
use Rattle.numbered.proofs.with_bits.Goals as goal

pub returns : goal.returns
returns c = none_or c.args.a c.args.b
