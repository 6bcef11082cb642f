-- `entries::entry_at` meets its contract: the answer stands behind the question. Assumes nothing.
use native.Mathlib.Omega.{arith}
use Rattle.entries.specs.Entries.{entry_at}
use Rattle.entries.proofs.entry_at.Goals as goal

pub returns : goal.returns
unfolding entry_at
returns c = rw (c.question_at-question.ensures, c.answer_at-answer.ensures)

pub overflow_add-at : goal.overflow_add-at
overflow_add-at c = omega arith
