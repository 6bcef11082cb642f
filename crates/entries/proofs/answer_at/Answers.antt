-- `entries::answer_at` meets its contract: number by number. Assumes nothing.
use mathlib.Core.Path.{◌∙◌}
use native.Mathlib.Omega.{arith}
use mir.Syntax.{w32}
use Rattle.whole.specs.laws.Whole.{told}
use Rattle.entries.specs.Entries.{answer_at}
use Rattle.entries.proofs.answer_at.Goals as goal

pub returns : goal.returns
unfolding answer_at
returns c =
    rw (
      c.u16_at-2.ensures.value,
      c.u8_at-2.ensures.value,
      told w32 c.i32_at-4.result c.i32_at-4.type_inv ∙ c.i32_at-4.ensures,
      told w32 c.i32_at-3.result c.i32_at-3.type_inv ∙ c.i32_at-3.ensures,
      c.u16_at.ensures.value,
      c.u8_at.ensures.value,
      told w32 c.i32_at-2.result c.i32_at-2.type_inv ∙ c.i32_at-2.ensures,
      told w32 c.i32_at.result c.i32_at.type_inv ∙ c.i32_at.ensures,
      c.u8_at-number.ensures.value,
      c.u8_at-mark.ensures.value,
    )

pub overflow_add-at : goal.overflow_add-at
overflow_add-at c = omega arith

pub overflow_add-at-2 : goal.overflow_add-at-2
overflow_add-at-2 c = omega arith

pub overflow_add-at-3 : goal.overflow_add-at-3
overflow_add-at-3 c = omega arith

pub overflow_add-at-4 : goal.overflow_add-at-4
overflow_add-at-4 c = omega arith

pub overflow_add-at-5 : goal.overflow_add-at-5
overflow_add-at-5 c = omega arith

pub overflow_add-at-6 : goal.overflow_add-at-6
overflow_add-at-6 c = omega arith

pub overflow_add-at-7 : goal.overflow_add-at-7
overflow_add-at-7 c = omega arith

pub overflow_add-at-8 : goal.overflow_add-at-8
overflow_add-at-8 c = omega arith

pub overflow_add-at-9 : goal.overflow_add-at-9
overflow_add-at-9 c = omega arith
