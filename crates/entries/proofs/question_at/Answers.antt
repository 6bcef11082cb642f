-- `entries::question_at` meets its contract: number by number. Assumes nothing.
use mathlib.Core.Path.{◌∙◌}
use native.Mathlib.Omega.{arith}
use mir.Syntax.{w32}
use Rattle.whole.specs.laws.Whole.{told}
use Rattle.entries.specs.Entries.{question_at}
use Rattle.entries.proofs.question_at.Goals as goal

pub returns : goal.returns
unfolding question_at
returns c =
    rw (
      told w32 c.i32_at-end_offset.result c.i32_at-end_offset.type_inv ∙ c.i32_at-end_offset.ensures,
      told w32 c.i32_at-end.result c.i32_at-end.type_inv ∙ c.i32_at-end.ensures,
      told w32 c.i32_at-start_offset.result c.i32_at-start_offset.type_inv ∙ c.i32_at-start_offset.ensures,
      told w32 c.i32_at-start.result c.i32_at-start.type_inv ∙ c.i32_at-start.ensures,
      c.u8_at-end_marks.ensures.value,
      c.u8_at-start_marks.ensures.value,
      c.u8_at-strict.ensures.value,
      c.u8_at-kind.ensures.value,
    )

pub overflow_add-at : goal.overflow_add-at
overflow_add-at c = omega arith

pub overflow_add-at-2 : goal.overflow_add-at-2
overflow_add-at-2 c = omega arith

pub overflow_add-at-3 : goal.overflow_add-at-3
overflow_add-at-3 c = omega arith

pub overflow_add-at-4 : goal.overflow_add-at-4
overflow_add-at-4 c = omega arith

pub overflow_add-at-5 : goal.overflow_add-at-5
overflow_add-at-5 c = omega arith

pub overflow_add-at-6 : goal.overflow_add-at-6
overflow_add-at-6 c = omega arith

pub overflow_add-at-7 : goal.overflow_add-at-7
overflow_add-at-7 c = omega arith
