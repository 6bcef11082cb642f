-- Building's judgment comes first, and what it takes is written. Assumes nothing.
use mathlib.Core.Path.{◌≡◌, sym, ap, ◌∙◌}
use lib.ListN.{length}
use Rattle.std.proofs.lemmas.Result.{err_from_is_err_and}
use Rattle.refusals.specs.Outcome.{Outcome, Ok, Err}
use Rattle.refusals.specs.Numbers.{most_card}
use Rattle.spelling.specs.Write.{Writing, fitted, written_answer, buffer_after}
use Rattle.judging.specs.Input.{input_of}
use Rattle.judging.specs.Judging.{Made, judge}
use Rattle.judging.specs.laws.Told.{told_made, told_refused}
use Rattle.card.specs.Card.{card_text}
use Rattle.card.specs.Writing.{if_taken, card_writing}
use Rattle.card.specs.laws.Taken.{taken_records, taken_few}
use Rattle.card.proofs.write_card.Goals as goal
use Rattle.card.proofs.write_card.Goals.{Start}

-- what was judged
module _ (e : Start) where
  abbrev judgment : Outcome Made
  judgment = judge e.args.numbers e.args.records.now

  abbrev written_if_taken : Writing
  written_if_taken = fitted most_card (length e.args.buffer.now) (card_text (input_of e.args.numbers e.args.records.now))

  -- what the definition says once the judgment is known
  writing_is : (j : Outcome Made) → judgment ≡ j → card_writing e.args.numbers e.args.records.now (length e.args.buffer.now) ≡ if_taken j written_if_taken
  unfolding card_writing
  writing_is j h = ap (λ (x : Outcome Made). if_taken x written_if_taken) h

pub write_taken-requires : goal.write_taken-requires
write_taken-requires c =
    let a = c.args in
    let t = told_made (judge a.numbers a.records.now) (sym c.in_ok-judge.was ∙ c.judge.ensures.0) in
    (taken_few a.numbers a.records.now t.judged, taken_records a.numbers a.records.now t.judged)

pub returns : goal.returns
returns c =
    let e = (goal.at.returns c).Start in
    let t = told_made (judgment e) (sym c.in_ok-judge.was ∙ c.judge.ensures.0) in
    let w = writing_is e (Ok t.made) t.judged in
    let written = c.write_taken.ensures in
    record { value = written.value ∙ sym (ap written_answer w); buffer_after = written.buffer_after ∙ sym (ap (buffer_after c.args.buffer.now) w) }

pub returns-in_err-judge : goal.returns-in_err-judge
returns-in_err-judge c =
    let e = (goal.at.returns-in_err-judge c).Start in
    let p = err_from_is_err_and c.from_residual.result c.from_residual.ensures.1 in
    let h = told_refused (judgment e) (sym c.in_err-judge.was ∙ c.judge.ensures.0) in
    let w = writing_is e (Err _) h in
    rw (p.1, p.2) record { value = sym (ap written_answer w); buffer_after = sym (ap (buffer_after c.args.buffer.now) w) }
