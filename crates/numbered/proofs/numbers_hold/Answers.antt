-- The steps between neighbours, the first number and the step behind the last segment decide (`numbers_decided`). Assumes nothing.
use Rattle.std.proofs.Common.{sym, ◌∙◌}
use Rattle.numbered.proofs.Numbering.{numbers_decided}
use Rattle.numbered.proofs.numbers_hold.Goals as goal

pub returns-then-steps_hold : goal.returns-then-steps_hold
returns-then-steps_hold c =
    let a = c.args in
    let steps = rw (c.from_neighbour-low.ensures.0, c.to_neighbour-high.ensures.0) at (sym c.steps_hold.ensures ∙ c.if-steps_hold.true) in
    c.ends_hold.ensures ∙ (rw steps at (numbers_decided a.letters.now a.exons.now a.count c.requires.0 c.requires.1 a.forward a.records))

pub returns : goal.returns
returns c =
    let a = c.args in
    let steps = rw (c.from_neighbour-low.ensures.0, c.to_neighbour-high.ensures.0) at (sym c.steps_hold.ensures ∙ c.if-steps_hold.false) in
    rw steps at (numbers_decided a.letters.now a.exons.now a.count c.requires.0 c.requires.1 a.forward a.records)
