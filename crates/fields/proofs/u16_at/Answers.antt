-- `le16` is the byte at the place and 256 times the next one (`two_bytes`). Assumes nothing.
use Rattle.std.proofs.Common.{arith}
use Rattle.fields.proofs.Places.{two_bytes}
use Rattle.fields.proofs.u16_at.Goals as goal

pub returns-clause-value : goal.returns-clause-value
returns-clause-value c = omega (arith, two_bytes c.args.s.now c.args.at c.requires)
