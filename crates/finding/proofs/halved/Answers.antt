-- The loop keeps `low` at `high` or before it, both numbers of segments; where the table rises it keeps the segment sought between them (`Bracket`), and one is left in the end. Assumes nothing.
use native.Mathlib.Omega.{arith}
use borrow.Author.Tests.{lt-ltb, le-ltb}
use Rattle.finding.proofs.Halving.{bracket_down, bracket_up, bracket_done}
use Rattle.finding.proofs.halved.Goals as goal

pub loop-low-preserved-then-p-starts : goal.loop-low-preserved-then-p-starts
loop-low-preserved-then-p-starts c =
    (omega arith, omega arith, λ up. bracket_down (c.loop-low.invariant.2 up) (lt-ltb _ _ c.if-p-starts.true))

pub loop-low-preserved : goal.loop-low-preserved
loop-low-preserved c =
    (omega arith, omega arith, λ up. bracket_up (c.loop-low.invariant.2 up) up (omega arith) (le-ltb _ _ c.if-p-starts.false))

pub returns : goal.returns
returns c = record { within = omega arith; found = λ up. bracket_done (c.loop-low.invariant.2 up) (omega arith) (omega arith) }
