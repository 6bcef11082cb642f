-- The loop keeps some segments left, no more than `most` and all in the table; where the table rises it keeps the segment sought among them (`Bracket`), of which there is one once `most` is one. Assumes nothing.
use native.Mathlib.Omega.{arith}
use lib.IntN.{pos}
use Rattle.finding.proofs.Halving.{bracket_done, farthest_in, quarter_more}
use Rattle.finding.proofs.quartered.Goals as goal

pub loop-most-preserved : goal.loop-most-preserved
loop-most-preserved g c =
    let inv = c.loop-most.invariant in
    let a = c.args in (
      omega arith,
      omega arith,
      rw c.farthest-low.ensures (farthest_in a.starts.now (pos a.p) _ _ _ _ _ _ (omega arith) (omega arith) (omega arith) (omega arith)),
      λ up. rw c.farthest-low.ensures (quarter_more up _ _ _ (inv.3 up) inv.0 inv.2 (omega arith) (omega arith) (omega arith)),
    )

pub returns : goal.returns
returns g c = record { within = omega arith; found = λ up. bracket_done (c.loop-most.invariant.3 up) (omega arith) (omega arith) }
