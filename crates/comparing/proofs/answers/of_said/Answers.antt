-- A number of 32 bits is itself in 64.
use mir.Syntax.{w32}
use mir.Val.{Fits}
use Rattle.whole.specs.laws.Machine.{entry}
use borrow.Author.Rules.{rules}
use Rattle.comparing.proofs.answers.of_said.Goals as goal

pub returns : goal.returns
returns c =
    let a = c.args.a in
    let number : Fits w32 a.number = search rules in
    let yes : Fits w32 a.yes = search rules in
    simp (entry number, entry yes) at c.of_numbers.ensures
