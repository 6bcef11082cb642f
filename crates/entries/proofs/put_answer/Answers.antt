-- `entries::put_answer` meets its contract: the numbers of the positions are stored behind the four bytes, and the exons behind them. Assumes nothing.
use mathlib.Core.List.{◌++◌}
use native.Mathlib.Omega.{arith}
use mir.Syntax.{w32}
use Rattle.fields.specs.Fields.{bytes16}
use Rattle.whole.specs.laws.Whole.{told}
use Rattle.entries.specs.Entries.{four_bytes, four_numbers, answer_bytes}
use Rattle.entries.proofs.Stores.{then_stored}
use Rattle.entries.proofs.put_answer.Goals as goal

pub returns : goal.returns
unfolding four_bytes four_numbers answer_bytes
returns c =
    let a = c.args.a in
    let s = c.args.buffer.now in
    let at = c.args.at in
    let ends = c.struct_told-4-1.given in
    let starts = c.struct_told-2-1.given in
    let front = four_bytes a.mark a.number a.start.star a.end.star in
    let middle = four_numbers a.start.base a.start.offset a.end.base a.end.offset in
    then_stored (front ++ middle ++ bytes16 a.start.exon) (bytes16 a.end.exon) s at
    (then_stored (front ++ middle) (bytes16 a.start.exon) s at
    (then_stored front middle s at c.put_bytes.ensures
    (simp (told w32 a.start.base starts.0.1, told w32 a.start.offset starts.1.0.1, told w32 a.end.base ends.0.1, told w32 a.end.offset ends.1.0.1) at c.put_numbers.ensures))
    c.put_u16.ensures)
    c.put_u16-2.ensures

pub overflow_add-at : goal.overflow_add-at
overflow_add-at c = omega arith

pub overflow_add-at-2 : goal.overflow_add-at-2
overflow_add-at-2 c = omega arith

pub overflow_add-at-3 : goal.overflow_add-at-3
overflow_add-at-3 c = omega arith

pub shape_of-buffer : goal.shape_of-buffer
shape_of-buffer c = omega arith
