-- `reading::tally_rest` meets its contract: the loop keeps that the whole tally is that of the records that are left, from the sums so far. Assumes nothing.
use mathlib.Core.Path.{◌≡◌}
use Prim.Native.Nat.{◌-◌}
use Rattle.records.specs.Records.{record_at, records_from}
use Rattle.records.specs.Walk.{Walk}
use Rattle.reading.specs.Reading.{genome_end_of, exons_after}
use Rattle.reading.specs.Tallies.{Bounded, tallied_after}
use Rattle.reading.proofs.tally_rest.Given as goal

abbrev pub invariant-loop : goal.invariant-loop
invariant-loop l =
    Walk l.s l.previous (l.left - l.counter) l.at × Bounded l.sums
    × (tallied_after (genome_end_of (record_at l.s l.initial.previous)) l.initial.sums (exons_after l.initial.sums.count (records_from l.left l.s l.initial.at))
    ≡ tallied_after (genome_end_of (record_at l.s l.previous)) l.sums (exons_after l.sums.count (records_from (l.left - l.counter) l.s l.at)))
