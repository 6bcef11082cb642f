-- `words::is_known` meets its contract. Assumes nothing.
use mathlib.Core.Path.{ap, ◌∙◌}
use Rattle.cigar.specs.Elements.{is_letter}
use Rattle.words.proofs.is_known.Goals as goal

pub returns : goal.returns
returns c = c.is_letter.ensures ∙ ap is_letter c.letter_in.ensures
