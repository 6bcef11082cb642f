-- `transcript::with_cds` meets its contract: bits up to 3 survive the cast, and each bound's number is what `number_of` ensures of `start_of` and of `end_of`; the other fields stay. Assumes nothing.
use native.Mathlib.Omega.{arith}
use mir.Syntax.{w32}
use mir.ValLaws.{to_z_pos}
use Rattle.whole.specs.laws.Whole.{told, read}
use Rattle.transcript.proofs.with_cds.Goals as goal

pub returns : goal.returns
returns c =
    rw (
      to_z_pos w32 c.args.bits (omega arith),
      told w32 _ c.number_of-from.type_inv,
      told w32 _ c.number_of-to.type_inv,
      c.number_of-from.ensures,
      c.number_of-to.ensures,
      c.start_of.ensures,
      c.end_of.ensures,
      read c.ranges.start,
      read c.ranges.end,
    )
