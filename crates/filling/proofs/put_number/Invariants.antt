-- `filling::put_number` meets its contract: the table with the numbers that are left stays the one promised: a turn stores one more (`run_more`), and at the end none is left (`run_none`). Assumes nothing.
use Prim.Native.Nat.{◌-◌}
use mathlib.Core.Path.{◌≡◌}
use lib.ListN.{length, replicate}
use lib.Seq.{sets}
use Rattle.filling.proofs.put_number.Given as goal

abbrev pub invariant-loop-i : goal.invariant-loop-i
invariant-loop-i l =
    (length l.exons ≡ length l.initial.exons) × (sets l.initial.exons l.from (replicate (l.to - l.from) l.number) ≡ sets l.exons l.i (replicate (l.to - l.i) l.number))
