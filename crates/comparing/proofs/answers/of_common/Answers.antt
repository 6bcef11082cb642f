-- A size is one word.
use mathlib.Core.Path.{◌∙◌}
use mir.Syntax.{w64}
use Rattle.whole.specs.laws.Whole.{told}
use Rattle.comparing.proofs.answers.of_common.Goals as goal

pub returns : goal.returns
returns c = simp (told w64 c.of_size.result c.of_size.type_inv ∙ c.of_size.ensures) at c.of_numbers.ensures
