-- `entries::put_entry` meets its contract: the answer is stored behind the question. Assumes nothing.
use native.Mathlib.Omega.{arith}
use Rattle.entries.specs.Entries.{four_bytes, four_numbers, question_bytes, answer_bytes, entry_bytes}
use Rattle.entries.proofs.Stores.{then_stored}
use Rattle.entries.proofs.put_entry.Goals as goal

pub returns : goal.returns
unfolding four_bytes four_numbers question_bytes entry_bytes
returns c =
    then_stored (question_bytes c.args.entry.question) (answer_bytes c.args.entry.answer) c.args.buffer.now c.args.at c.put_question.ensures c.put_answer.ensures

pub overflow_add-at : goal.overflow_add-at
overflow_add-at c = omega arith

pub shape_of-buffer : goal.shape_of-buffer
shape_of-buffer c = omega arith
