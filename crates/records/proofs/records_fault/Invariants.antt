-- `records::records_fault` meets its contract. The loop keeps that the first refusal of all records is that of the rest, beside the previous one. Assumes nothing.
use mathlib.Core.Path.{◌≡◌}
use mathlib.Core.Bool.{true}
use Prim.Native.Nat.{◌+◌, ◌-◌, ◌≤◌}
use lib.ListN.{length}
use Rattle.records.specs.Layout.{cigar_text}
use Rattle.records.specs.Records.{record_at, records_from, exactly}
use Rattle.records.specs.Faults.{faults_after, faults}
use Rattle.records.proofs.records_fault.Given as goal

abbrev pub invariant-loop : goal.invariant-loop
invariant-loop l =
    (l.previous + cigar_text ≤ length l.s) × (exactly (l.count - l.counter) l.s l.at ≡ true)
    × (faults l.forward (records_from l.count l.s 0) ≡ faults_after l.forward (record_at l.s l.previous) (records_from (l.count - l.counter) l.s l.at))
