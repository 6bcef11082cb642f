-- `entries::put_numbers` meets its contract: the four numbers are stored one behind the other. Assumes nothing.
use mathlib.Core.Path.{◌≡◌, ap, ◌∙◌}
use mathlib.Core.List.{List, ◌++◌}
use Prim.Native.Nat.{ℕ, ◌+◌}
use native.Mathlib.Omega.{arith}
use lib.IntN.{ℤ}
use lib.Seq.{sets}
use Rattle.fields.specs.Fields.{bytes32, bits32}
use Rattle.whole.specs.laws.Whole.{read}
use Rattle.entries.specs.Entries.{four_numbers}
use Rattle.entries.proofs.Stores.{then_stored}
use Rattle.entries.proofs.put_numbers.Goals as goal

number_stored : (before : List ℕ) (at : ℕ) {after : List ℕ} {z w : ℤ} → z ≡ w → after ≡ sets before at (bytes32 (bits32 z)) → after ≡ sets before at (bytes32 (bits32 w))
number_stored before at e h = h ∙ ap (λ (x : ℤ). sets before at (bytes32 (bits32 x))) e

pub returns : goal.returns
unfolding four_numbers
returns c =
    let s = c.args.buffer.now in
    let at = c.args.at in
    let a = bytes32 (bits32 c.args.a) in
    let b = bytes32 (bits32 c.args.b) in
    let d = bytes32 (bits32 c.args.c) in
    then_stored (a ++ b ++ d) (bytes32 (bits32 c.args.d)) s at
    (then_stored (a ++ b) d s at
    (then_stored a b s at (number_stored s at (read c.ranges.a) c.put_i32.ensures)
    (number_stored c.put_i32.new.buf (at + 4) (read c.ranges.b) c.put_i32-2.ensures))
    (number_stored c.put_i32-2.new.buf (at + 8) (read c.ranges.c) c.put_i32-3.ensures))
    (number_stored c.put_i32-3.new.buf (at + 12) (read c.ranges.d) c.put_i32-4.ensures)

pub overflow_add-at : goal.overflow_add-at
overflow_add-at c = omega arith

pub overflow_add-at-2 : goal.overflow_add-at-2
overflow_add-at-2 c = omega arith

pub overflow_add-at-3 : goal.overflow_add-at-3
overflow_add-at-3 c = omega arith

pub shape_of-buffer : goal.shape_of-buffer
shape_of-buffer c = omega arith
