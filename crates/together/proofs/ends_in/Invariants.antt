-- After each turn the bits are what `all_below` says of the ends passed. Assumes nothing.
use Prim.Native.Nat.{ℕ}
use mathlib.Core.Path.{◌≡◌}
use Rattle.segments.specs.Tables.{all_below}
use Rattle.numbered.specs.Stretches.{from}
use Rattle.stepping.specs.Steps.{within}
use Rattle.together.specs.Ends.{ends_within_at}
use Rattle.together.proofs.ends_in.Given as goal

abbrev pub invariant-loop-i : goal.invariant-loop-i
invariant-loop-i l = (k : ℕ) → within k l.bits ≡ all_below (from l.first (ends_within_at k l.genome l.transcript)) l.i
