-- `filling::fill_rest` meets its contract: the tables with what is left put in stay those promised: a record's elements end where the rest begin (`next_ends`), so fills join (`fill_then`), and runs of numbers too (`sets_then`). Assumes nothing.
use mathlib.Core.Path.{◌≡◌}
use Prim.Native.Nat.{◌+◌, ◌-◌}
use lib.ListN.{length}
use lib.Seq.{sets}
use Rattle.refusals.specs.Numbers.{most_segments}
use Rattle.records.specs.Records.{record_at, records_from}
use Rattle.records.specs.Walk.{Walk}
use Rattle.reading.specs.Reading.{genome_end_of, exons_after}
use Rattle.reading.specs.Tallies.{Bounded, tallied_after}
use Rattle.segments.specs.Tables.{tables}
use Rattle.filling.specs.Filling.{Long, fill, elements_past, numbers_past, SmallTally}
use Rattle.filling.proofs.fill_rest.Given as goal

abbrev pub invariant-loop-done : goal.invariant-loop-done
invariant-loop-done l =
    Long (tables l.genome l.transcript l.letters) × Walk l.s l.previous (l.left - l.done) l.at × Bounded l.from
    × SmallTally (tallied_after (genome_end_of (record_at l.s l.previous)) l.from (exons_after l.from.count (records_from (l.left - l.done) l.s l.at)))
    × (fill (tables l.initial.genome l.initial.transcript l.initial.letters) l.initial.from (elements_past l.forward (genome_end_of (record_at l.s l.initial.previous)) (exons_after l.initial.from.count (records_from l.left l.s l.initial.at)))
    ≡ fill (tables l.genome l.transcript l.letters) l.from (elements_past l.forward (genome_end_of (record_at l.s l.previous)) (exons_after l.from.count (records_from (l.left - l.done) l.s l.at))))
    × (length l.exons ≡ most_segments)
    × (sets l.initial.exons l.initial.from.count (numbers_past l.forward l.before (exons_after l.initial.from.count (records_from l.left l.s l.initial.at)))
    ≡ sets l.exons l.from.count (numbers_past l.forward (l.before + l.done) (exons_after l.from.count (records_from (l.left - l.done) l.s l.at))))
