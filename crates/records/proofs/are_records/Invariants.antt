-- `records::are_records` meets its contract. The loop keeps that the whole is right just where the rest is. Assumes nothing.
use mathlib.Core.Path.{◌≡◌}
use Prim.Native.Nat.{◌-◌, ◌≤◌}
use lib.ListN.{length}
use Rattle.records.specs.Records.{exactly}
use Rattle.records.proofs.are_records.Given as goal

abbrev pub invariant-loop : goal.invariant-loop
invariant-loop l = (l.at ≤ length l.s) × (exactly l.count l.s 0 ≡ exactly (l.count - l.counter) l.s l.at)
