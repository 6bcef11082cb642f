-- After each turn the flag says whether all bytes passed are those of the text.
use Prim.Native.Nat.{ℕ, ◌≤◌}
use mathlib.Core.Path.{◌≡◌}
use lib.Dec.{eqb}
use lib.ListN.{length, get_or}
use Rattle.segments.specs.Tables.{all_below}
use Rattle.comparing.proofs.buffers.holds.Given as goal

abbrev pub invariant-loop-i : goal.invariant-loop-i
invariant-loop-i l = (l.i ≤ length l.buffer) × (l.same ≡ all_below (λ (k : ℕ). eqb (get_or l.buffer k 0) (get_or l.text k 0)) l.i)
