-- A number of 32 bits is itself in 64.
use mathlib.Core.Path.{◌∙◌}
use mir.Syntax.{w32, w64}
use mir.Val.{Fits}
use Rattle.whole.specs.laws.Machine.{entry}
use Rattle.whole.specs.laws.Whole.{told}
use borrow.Author.Rules.{rules}
use Rattle.comparing.proofs.answers.of_length.Goals as goal

pub returns : goal.returns
returns c =
    let a = c.args.a in
    let number : Fits w32 a.number = search rules in
    simp (entry number, told w64 c.of_size.result c.of_size.type_inv ∙ c.of_size.ensures) at c.of_numbers.ensures
