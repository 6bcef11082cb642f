-- The strand says at which end of the allele what goes first stands.
-- Assumes nothing.
use mathlib.Core.Path.{ap, ◌∙◌}
use Rattle.sequences.specs.Slices.{Slice, front_of}
use Rattle.strands.proofs.left.Goals as goal

pub returns-then-back : goal.returns-then-back
returns-then-back c =
    let gone = c.args.gone in
    rw c.if-back.true (c.front.ensures ∙ ap (λ (s : Slice). front_of s gone.prefix) c.rest.ensures)

pub returns : goal.returns
returns c =
    let gone = c.args.gone in
    rw c.if-back.false (c.front-2.ensures ∙ ap (λ (s : Slice). front_of s gone.suffix) c.rest-2.ensures)
