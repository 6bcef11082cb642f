-- After each turn the lanes tell of one segment more (`taken_more`), of the steps and of the bits alike. Assumes nothing.
use Rattle.std.proofs.Common.{ℕ}
use Rattle.segments.specs.Tables.{tables}
use Rattle.stepping.specs.Steps.{common_same_at, common_within_at}
use Rattle.lanes.proofs.Lanes.{Taken}
use Rattle.lanes.proofs.lanes_on.Given as goal

abbrev pub invariant-loop-k : goal.invariant-loop-k
invariant-loop-k l = Taken 0 (common_same_at (tables l.genome l.transcript l.letters)) l.first l.initial.apart l.apart l.k × ((n : ℕ) → Taken n (common_within_at n (tables l.genome l.transcript l.letters)) l.first l.initial.bits l.bits l.k)
