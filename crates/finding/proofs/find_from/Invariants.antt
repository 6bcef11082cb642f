-- `finding::find_from` meets its contract. The loop's invariant: the segment where it stands is not past the one sought. Assumes nothing.
use Prim.Native.Nat.{◌≤◌}
use Rattle.finding.specs.Finding.{index_of}
use Rattle.finding.proofs.find_from.Given as goal

abbrev pub invariant-loop-i : goal.invariant-loop-i
invariant-loop-i l = l.i ≤ index_of l.starts l.count l.p
