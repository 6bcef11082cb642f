-- `cigar::step_at` meets its contract. The loop's invariant: what is to be found is what `element_from` finds from here, at the digits so far. The count stands for the true one,
-- or for any above the largest (`capped`).
-- Assumes nothing.
use mathlib.Core.Path.{◌≡◌}
use Prim.Native.Nat.{◌≤◌}
use lib.ListN.{drop}
use Rattle.cigar.specs.Text.{element_from, step_at}
use Rattle.cigar.proofs.step_at.Given as goal

abbrev pub invariant-loop-i : goal.invariant-loop-i
invariant-loop-i l = (l.n ≤ 2147483648) × (step_at l.text l.at ≡ element_from l.given l.n l.i (drop l.i l.text))
