-- The loop keeps `low` at `high` or before it, both numbers of segments; where the table rises it keeps the segment sought between them (`Bracket`), and one is left in the end. Assumes nothing.
use Prim.Native.Nat.{◌-◌, ◌≤◌, ◌<◌}
use lib.IntN.{pos}
use Rattle.finding.specs.Finding.{Rising}
use Rattle.finding.proofs.Halving.{Bracket}
use Rattle.finding.proofs.halved.Given as goal

abbrev pub invariant-loop-low : goal.invariant-loop-low
invariant-loop-low l = (l.low ≤ l.high) × (l.high < l.count) × (Rising l.starts l.count → Bracket l.starts l.count (pos l.p) l.low l.high)

abbrev pub decreases-loop-low : goal.decreases-loop-low
decreases-loop-low l = l.high - l.low
