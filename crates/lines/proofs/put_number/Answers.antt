-- `lines::put_number` meets its contract: the digits, of which a number of 32 bits has ten at most, are put after the space. Assumes nothing.
use Rattle.std.proofs.Common.{arith}
use Rattle.std.proofs.lemmas.List.{length-set}
use Rattle.lines.specs.Lengths.{number_short}
use Rattle.lines.proofs.put_number.Goals as goal

pub put_digits-requires : goal.put_digits-requires
put_digits-requires c = simp length-set (omega (arith, number_short c.args.n c.ranges.n.fits))
