-- `entries::put_bytes` meets its contract: each byte is stored once, in order. Assumes nothing.
use native.Mathlib.Numerals.{add-one, add-two, add-three}
use native.Mathlib.Omega.{arith}
use Rattle.entries.specs.Entries.{four_bytes}
use Rattle.entries.proofs.put_bytes.Goals as goal

pub returns : goal.returns
unfolding four_bytes
returns c =
    rw (c.put_u8-4.ensures, c.put_u8-3.ensures, c.put_u8-2.ensures, c.put_u8.ensures, add-one, add-two, add-three)

pub overflow_add-at : goal.overflow_add-at
overflow_add-at c = omega arith

pub overflow_add-at-2 : goal.overflow_add-at-2
overflow_add-at-2 c = omega arith

pub overflow_add-at-3 : goal.overflow_add-at-3
overflow_add-at-3 c = omega arith

pub shape_of-buffer : goal.shape_of-buffer
shape_of-buffer c = omega arith
