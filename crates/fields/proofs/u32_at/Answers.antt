-- `le32` is the four bytes from the place on (`four_bytes`). Assumes nothing.
use Rattle.std.proofs.Common.{arith}
use Rattle.fields.proofs.Places.{four_bytes}
use Rattle.fields.proofs.u32_at.Goals as goal

pub returns : goal.returns
returns c = omega (arith, four_bytes c.args.s.now c.args.at c.requires)
