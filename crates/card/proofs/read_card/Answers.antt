-- `card::read_card` meets its contract: the tests that led to each `return` are those of `read_card`, in order.
-- Assumes nothing.
use mathlib.Core.Path.{sym, ap, ◌∙◌}
use borrow.Author.Tests.{lt-ltb, le-ltb, eq-eqb, ne_eqb}
use Rattle.refusals.specs.Outcome.{Ok}
use Rattle.card.specs.Card.{read_card}
use Rattle.card.proofs.Reading.{marked_long, card_long}
use Rattle.card.proofs.read_card.Goals as goal

pub returns-then-card-gt-MOST_CARD : goal.returns-then-card-gt-MOST_CARD
unfolding read_card
returns-then-card-gt-MOST_CARD c = rw (lt-ltb _ _ c.if-card-gt-MOST_CARD.true)

pub returns-then-not-is_marked : goal.returns-then-not-is_marked
unfolding read_card
returns-then-not-is_marked c = rw (le-ltb _ _ c.if-card-gt-MOST_CARD.false, sym c.is_marked.ensures ∙ c.if-not-is_marked.true)

pub u16_at-requires : goal.u16_at-requires
u16_at-requires c = marked_long c.args.card.now (sym c.is_marked.ensures ∙ c.if-not-is_marked.false)

pub returns-then-u16_at-ne-VERSION : goal.returns-then-u16_at-ne-VERSION
unfolding read_card
returns-then-u16_at-ne-VERSION c =
    rw (le-ltb _ _ c.if-card-gt-MOST_CARD.false, sym c.is_marked.ensures ∙ c.if-not-is_marked.false, ne_eqb _ _ (λ e. c.if-u16_at-ne-VERSION.true (c.u16_at.ensures.value ∙ e)))

pub read_numbers-requires : goal.read_numbers-requires
read_numbers-requires c = card_long c.args.card.now (sym c.is_card.ensures ∙ c.if-is_card.true)

pub returns-then-is_card : goal.returns-then-is_card
unfolding read_card
returns-then-is_card c =
    rw (le-ltb _ _ c.if-card-gt-MOST_CARD.false, sym c.is_marked.ensures ∙ c.if-not-is_marked.false, eq-eqb _ _ (sym c.u16_at.ensures.value ∙ c.if-u16_at-ne-VERSION.false), sym c.is_card.ensures ∙ c.if-is_card.true)
    (ap Ok c.read_numbers.ensures)

pub returns-else-is_card : goal.returns-else-is_card
unfolding read_card
returns-else-is_card c =
    rw (le-ltb _ _ c.if-card-gt-MOST_CARD.false, sym c.is_marked.ensures ∙ c.if-not-is_marked.false, eq-eqb _ _ (sym c.u16_at.ensures.value ∙ c.if-u16_at-ne-VERSION.false), sym c.is_card.ensures ∙ c.if-is_card.false)
