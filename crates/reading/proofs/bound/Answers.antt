-- `reading::bound` meets its contract: bits that read as a number not below 0 are that number's size (`bits_whole`), so that `u32_at` gives it. Assumes nothing.
use mathlib.Core.Path.{◌∙◌}
use Rattle.reading.proofs.Gaps.{bits_whole}
use Rattle.reading.proofs.bound.Goals as goal

pub returns : goal.returns
returns c = c.u32_at.ensures ∙ bits_whole _ c.requires.pos_value
