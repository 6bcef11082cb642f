-- `whole::fits` meets its contract: the conversion keeps just the numbers that `fit_of` keeps (`converted`). Assumes nothing.
use Rattle.std.proofs.Common.{◌∙◌}
use Rattle.whole.specs.laws.Whole.{read}
use Rattle.whole.specs.laws.Fits.{converted}
use Rattle.whole.proofs.fits.Goals as goal

pub returns : goal.returns
returns c = c.ok.ensures.value ∙ converted c.args.z c.try_from.result (rw (read c.ranges.z) at c.try_from.ensures)
