-- The test gives the number back, or none, which is 17. Assumes nothing.
use Rattle.whole.specs.laws.Whole.{read}
use Rattle.positions.proofs.Wide.{fit_or}
use Rattle.positions.proofs.fitting.fitted.Goals as goal

pub returns : goal.returns
returns c = simp (c.ok_or.ensures.value, c.fits.ensures, read c.ranges.z) (fit_or c.args.z)
