-- `entries::put_question` meets its contract: the numbers of the positions are stored behind the four bytes. Assumes nothing.
use native.Mathlib.Omega.{arith}
use mir.Syntax.{w32}
use Rattle.whole.specs.laws.Whole.{told}
use Rattle.entries.specs.Entries.{four_bytes, four_numbers, question_bytes}
use Rattle.entries.proofs.Stores.{then_stored}
use Rattle.entries.proofs.put_question.Goals as goal

pub returns : goal.returns
unfolding four_bytes question_bytes
returns c =
    let q = c.args.q in
    let fits = c.struct_told-4-1.given.1.1.1.1 in
    then_stored (four_bytes q.kind q.strict q.start_marks q.end_marks) (four_numbers q.start q.start_offset q.end q.end_offset) c.args.buffer.now c.args.at
    c.put_bytes.ensures
    (simp (told w32 q.start fits.0.1, told w32 q.start_offset fits.1.0.1, told w32 q.end fits.1.1.0.1, told w32 q.end_offset fits.1.1.1.0.1) at c.put_numbers.ensures)

pub overflow_add-at : goal.overflow_add-at
overflow_add-at c = omega arith

pub shape_of-buffer : goal.shape_of-buffer
shape_of-buffer c = omega arith
