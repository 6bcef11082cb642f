-- `asking::record` meets its contract: of a question that can be held, the entry that is appended is the question with what is said to it. Assumes nothing.
use mathlib.Core.Path.{refl, sym, ap, ◌∙◌}
use Rattle.refusals.specs.declared.Refusal.{Refusal}
use Rattle.refusals.specs.Outcome.{Err}
use Rattle.layout.specs.Layout.{refusal}
use Rattle.asking.specs.Asking.{asked, recording, recorded_laid}
use Rattle.asking.proofs.Held.{held_means, unheld_means}
use Rattle.asking.proofs.record.Goals as goal

pub answer_of-answer-requires : goal.answer_of-answer-requires
answer_of-answer-requires c = (held_means _ (sym c.held_kind.ensures ∙ c.in-Ok.is)).1

pub returns-in-Ok : goal.returns-in-Ok
unfolding asked recording
returns-in-Ok c =
    rw ((held_means _ (sym c.held_kind.ensures ∙ c.in-Ok.is)).0, ← c.answer_of-answer.ensures)
    record { value = c.lay_recorded.ensures ∙ ap (recorded_laid c.answer_of-answer.result) c.append.ensures.value; log_after = c.append.ensures.log_after }

pub returns-in-Err : goal.returns-in-Err
unfolding asked recording
returns-in-Err c =
    let (none, is) = unheld_means _ (sym c.held_kind.ensures ∙ c.in-Err.is) in
    rw none record { value = c.lay_recorded-in-Err.ensures ∙ ap (λ (n : Refusal). recorded_laid (refusal 0) (Err n)) is; log_after = refl }
