-- `cigar::signed` meets its contract: a count up to the largest is a signed number of 32 bits. Assumes nothing.
use mir.Syntax.{w32}
use mir.ValLaws.{to_z_pos}
use native.Mathlib.Omega.{arith}
use Rattle.cigar.proofs.signed.Goals as goal

pub returns : goal.returns
returns c = to_z_pos w32 c.args.count (omega arith)
