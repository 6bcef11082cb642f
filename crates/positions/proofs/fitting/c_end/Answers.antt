-- The number is tested; its offset came in 32 bits, so it fits. Assumes nothing.
use Rattle.std.proofs.Common.{rules}
use Rattle.whole.specs.laws.Whole.{read}
use Rattle.positions.proofs.Wide.{fits_yes}
use Rattle.positions.proofs.fitting.c_end.Goals as goal

pub returns : goal.returns
returns c = simp (read c.ranges.offset, fits_yes _ c.ranges.offset) (search rules)
