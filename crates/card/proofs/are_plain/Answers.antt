-- `card::are_plain` meets its contract: the two tests are those of `are_plain`; `==` compares the bits.
-- Assumes nothing.
use mathlib.Core.Path.{◌≡◌, refl, sym, ap, ◌∙◌}
use lib.Dec.{eqb}
use lib.IntN.{ℤ}
use mir.Syntax.{w32}
use mir.Val.{of_z}
use borrow.Author.Tests.{eq-eqb, ne_eqb}
use Rattle.whole.specs.Whole.{eq_z}
use Rattle.whole.specs.laws.Whole.{read}
use Rattle.whole.specs.laws.Machine.{bits_32}
use Rattle.transcript.specs.Heads.{start_of, end_of, number_of}
use Rattle.card.specs.Card.{are_plain}
use Rattle.card.proofs.are_plain.Goals as goal
use Rattle.card.proofs.are_plain.Goals.{After-number_of-to}

module _ (c : After-number_of-to) where
  starts : eq_z (number_of (start_of c.args.cds c.args.start)) c.args.start ≡ eqb (of_z w32 c.number_of-from.result) (of_z w32 c.args.start)
  starts =
      let is = c.number_of-from.ensures ∙ ap number_of (c.start_of.ensures ∙ ap (start_of c.args.cds) (read c.ranges.start)) in
      ap (λ (z : ℤ). eq_z z c.args.start) (sym is) ∙ sym (bits_32 (record { sfits = c.number_of-from.type_inv }) c.ranges.start)

  ends : eq_z (number_of (end_of c.args.cds c.args.end)) c.args.end ≡ eqb (of_z w32 c.number_of-to.result) (of_z w32 c.args.end)
  ends =
      let is = c.number_of-to.ensures ∙ ap number_of (c.end_of.ensures ∙ ap (end_of c.args.cds) (read c.ranges.end)) in
      ap (λ (z : ℤ). eq_z z c.args.end) (sym is) ∙ sym (bits_32 (record { sfits = c.number_of-to.type_inv }) c.ranges.end)

pub returns-then-from-start : goal.returns-then-from-start
unfolding are_plain
returns-then-from-start c =
    let k = (goal.at.returns-then-from-start c).After-number_of-to in
    rw (starts k, ends k, eq-eqb _ _ c.if-from-start.true) refl

pub returns-else-from-start : goal.returns-else-from-start
unfolding are_plain
returns-else-from-start c =
    let k = (goal.at.returns-else-from-start c).After-number_of-to in
    rw (starts k, ends k, ne_eqb _ _ c.if-from-start.false) refl
