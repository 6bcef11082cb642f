-- Each number of the part is one word.
use mathlib.Core.Path.{◌∙◌}
use mir.Syntax.{w32, w64}
use mir.Val.{Fits}
use Rattle.whole.specs.laws.Machine.{entry}
use Rattle.whole.specs.laws.Whole.{told}
use borrow.Author.Rules.{rules}
use Rattle.comparing.proofs.answers.of_part.Goals as goal

pub returns : goal.returns
returns c =
    let a = c.args.part in
    let alternative : Fits w32 a.alternative = search rules in
    simp (entry alternative, told w64 c.of_size-2.result c.of_size-2.type_inv ∙ c.of_size-2.ensures, told w64 c.of_size.result c.of_size.type_inv ∙ c.of_size.ensures) at c.of_numbers.ensures
