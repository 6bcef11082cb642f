-- `asking::ask` meets its contract. Assumes nothing.
use mathlib.Core.Path.{sym, ap, ◌∙◌}
use Rattle.refusals.specs.declared.Refusal.{Refusal}
use Rattle.refusals.specs.Numbers.{number}
use Rattle.layout.specs.Layout.{refusal}
use Rattle.asking.specs.Asking.{asked}
use Rattle.asking.proofs.Held.{held_means, unheld_means}
use Rattle.asking.proofs.ask.Goals as goal

pub answer_of-requires : goal.answer_of-requires
answer_of-requires c = (held_means _ (sym c.held_kind.ensures ∙ c.in-Ok.is)).1

pub returns-in-Ok : goal.returns-in-Ok
unfolding asked
returns-in-Ok c = rw (held_means _ (sym c.held_kind.ensures ∙ c.in-Ok.is)).0 c.answer_of.ensures

pub returns-in-Err : goal.returns-in-Err
unfolding asked
returns-in-Err c =
    let (none, is) = unheld_means _ (sym c.held_kind.ensures ∙ c.in-Err.is) in
    rw none (c.refusal_of.ensures ∙ ap (λ (n : Refusal). refusal (number n)) is)
