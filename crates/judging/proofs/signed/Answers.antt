-- `judging::signed` meets its contract: a length that passed 9 is below 2^63, so that the cast keeps it. Assumes nothing.
use native.Mathlib.Omega.{arith}
use mir.Syntax.{w64}
use mir.ValLaws.{to_z_pos}
use Rattle.judging.proofs.signed.Goals as goal

pub returns : goal.returns
returns c = to_z_pos w64 c.args.n (omega arith)
