-- The loop keeps some segments left, no more than `most` and all in the table; where the table rises it keeps the segment sought among them (`Bracket`), of which there is one once `most` is one. Assumes nothing.
use Prim.Native.Nat.{◌+◌, ◌-◌, ◌≤◌}
use lib.IntN.{pos}
use Rattle.finding.specs.Finding.{Rising}
use Rattle.finding.proofs.Halving.{Bracket}
use Rattle.finding.proofs.quartered.Given as goal

abbrev pub invariant-loop-most : goal.invariant-loop-most
invariant-loop-most g l = (1 ≤ l.left) × (l.left ≤ l.most) × (l.low + l.left ≤ l.count) × (Rising l.starts l.count → Bracket l.starts l.count (pos l.p) l.low (l.low + l.left - 1))

abbrev pub decreases-loop-most : goal.decreases-loop-most
decreases-loop-most g l = l.most
