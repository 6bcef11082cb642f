-- `words::first_fault` meets its contract. The loop keeps that the first refusal is that of the elements that are left. Assumes nothing.
use Rattle.std.proofs.Common.{◌≡◌, ◌-◌, ◌≤◌}
use Rattle.words.specs.Words.{fault_from}
use Rattle.words.proofs.first_fault.Given as goal

abbrev pub invariant-loop-i : goal.invariant-loop-i
invariant-loop-i l = (l.i ≤ l.number) × (fault_from l.counts l.letters 0 l.number ≡ fault_from l.counts l.letters l.i (l.number - l.i))
