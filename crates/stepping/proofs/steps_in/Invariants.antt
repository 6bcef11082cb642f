-- After each turn the flag and the bits are what `all_below` says of the segments passed. Assumes nothing.
use Rattle.std.proofs.Common.{◌≡◌, ℕ}
use Rattle.segments.specs.Tables.{tables, all_below}
use Rattle.numbered.specs.Stretches.{from}
use Rattle.stepping.specs.Steps.{at, within}
use Rattle.stepping.proofs.steps_in.Given as goal

abbrev pub invariant-loop-i : goal.invariant-loop-i
invariant-loop-i g l =
    (l.seen.same ≡ all_below (from l.first (at g.P.Pass.sames (tables l.genome l.transcript l.letters))) l.i)
    × ((k : ℕ) → within k l.seen.bits ≡ all_below (from l.first (at (g.P.Pass.gathers k) (tables l.genome l.transcript l.letters))) l.i)
