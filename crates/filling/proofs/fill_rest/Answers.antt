-- `filling::fill_rest` meets its contract: the tables with what is left put in stay those promised: a record's elements end where the rest begin (`next_ends`), so fills join (`fill_then`), and runs of numbers too (`sets_then`). Assumes nothing.
use mathlib.Core.Path.{◌≡◌, refl, sym, ap, subst, ◌∙◌}
use mathlib.Core.List.{List, ◌∷◌}
use Prim.Native.Nat.{ℕ, ◌+◌, ◌-◌, ◌<◌}
use native.Mathlib.Omega.{arith}
use lib.ListN.{length, replicate, length-replicate}
use lib.Seq.{sets, length-sets}
use Rattle.refusals.specs.Outcome.{Ok}
use Rattle.records.specs.Records.{Record, next_at, record_at, records_from}
use Rattle.records.specs.Walk.{Turn}
use Rattle.records.specs.laws.Walk.{turn}
use Rattle.reading.specs.Reading.{genome_end_of, between, spanned, read_next, exons_after}
use Rattle.reading.specs.Tallies.{one_on, BoundedTally, tallied, tallied_after}
use Rattle.reading.specs.declared.Sums.{Sums}
use Rattle.reading.proofs.laws.Tallied.{rest_sums, rest_refused}
use Rattle.segments.specs.Tables.{tables}
use Rattle.transcript.specs.Building.{numbered_by}
use Rattle.filling.specs.Filling.{fill, next_elements, elements_past, numbers_past, SmallSums, SmallTally}
use Rattle.filling.proofs.Fills.{long_after}
use Rattle.filling.proofs.Past.{fill_then, small_so_far, next_told, next_ends, past_one, past_none}
use Rattle.filling.proofs.Numbers.{numbers_one, numbers_none}
use Rattle.filling.proofs.Runs.{sets_then}
use Rattle.filling.proofs.fill_rest.Goals as goal
use Rattle.filling.proofs.fill_rest.Goals.{In-Ok, In-loop-done}

pub loop-done-init : goal.loop-done-init
loop-done-init c =
    let all : c.args.left - 0 ≡ c.args.left = omega arith in
    let none : c.args.before + 0 ≡ c.args.before = omega arith in
    rw (all, none) (c.requires.long, c.requires.walk.0, c.requires.walk.1, c.requires.small_tally, refl, c.requires.exons_len.0, refl)

-- the record at the place stands, beside the one before it, and the walk goes on
turn_here : (c : In-loop-done) → let l = c.loop-done in Turn c.args.s.now l.previous (c.args.left - l.done) l.at
turn_here c = turn (omega arith) c.loop-done.invariant.1

pub tally_next-requires : goal.tally_next-requires
tally_next-requires c =
    let l = c.loop-done in
    let r = turn_here (goal.at.tally_next-requires c).In-loop-done in
    record { cigar_text_in_bounds = (l.invariant.1.inside, r.stands); beside = r.beside; bounded = l.invariant.2 }

-- where the next record was tallied
module _ (c : In-Ok) where
  abbrev bytes : List ℕ
  bytes = c.args.s.now

  abbrev sums : Sums
  sums = c.loop-done.from

  abbrev left : ℕ
  left = c.args.left - c.loop-done.done

  abbrev place : ℕ
  place = c.loop-done.at

  abbrev here : Record
  here = record_at bytes place

  abbrev there : Record
  there = record_at bytes c.loop-done.previous

  abbrev to : Sums
  to = c.in-Ok.to

  some : 0 < left
  some = omega arith

  told : tallied (one_on sums (between there here)) (spanned here (read_next sums.count here)) ≡ Ok to
  told = sym c.tally_next.ensures.0 ∙ c.in-Ok.is

  own_told : tallied (one_on sums (between there here)) (read_next sums.count here) ≡ Ok to
  own_told = next_told c.args.forward bytes left place some there sums to told

  small_rest : SmallTally (tallied_after (genome_end_of here) to (exons_after to.count (records_from (left - 1) bytes (next_at bytes place))))
  small_rest = subst SmallTally (rest_sums bytes left place some there sums (sym told)) c.loop-done.invariant.3

  small_to : SmallSums to
  small_to = small_so_far (genome_end_of here) to (exons_after to.count (records_from (left - 1) bytes (next_at bytes place))) small_rest

  -- it goes further than the gap before it
  further : sums.count < to.count
  further = omega (arith, ap (λ (t : Sums). t.count) (next_ends c.args.forward bytes left place some there sums to told))

pub fill_next-requires : goal.fill_next-requires
fill_next-requires c =
    let l = c.loop-done in
    let k = (goal.at.fill_next-requires c).In-Ok in
    let r = turn_here (goal.at.fill_next-requires c).In-loop-done in
    record { long = l.invariant.0; cigar_text_in_bounds = (l.invariant.1.inside, r.stands, r.beside); at_value = own_told k; bounded = (l.invariant.2, small_to k) }

pub put_next-requires : goal.put_next-requires
put_next-requires c =
    let l = c.loop-done in
    let k = (goal.at.put_next-requires c).In-Ok in
    record { after_nonzero = (some k, omega (arith, c.requires.exons_len.1)); from_lt_to = (further k, omega (arith, l.invariant.5, (small_to k).few), omega (arith, l.invariant.5)) }

pub next_at-at-requires : goal.next_at-at-requires
next_at-at-requires c = (turn_here (goal.at.next_at-at-requires c).In-loop-done).stands.numbers

pub loop-done-preserved : goal.loop-done-preserved
loop-done-preserved c =
    let l = c.loop-done in
    let k = (goal.at.loop-done-preserved c).In-Ok in
    let forward = c.args.forward in
    let before = c.args.before + l.done in
    let was = tables l.genome l.transcript l.letters in
    let own = next_elements forward (sums k).count (there k) (here k) in
    let filled = c.fill_next.ensures in
    let others = exons_after (to k).count (records_from (left k - 1) (bytes k) (next_at (bytes k) (place k))) in
    let past = past_one forward (bytes k) (left k) (place k) (some k) (there k) (sums k) (to k) (told k) (small_rest k) in
    let ends = next_ends forward (bytes k) (left k) (place k) (some k) (there k) (sums k) (to k) (told k) in
    let numbered = c.put_next.ensures in
    let size = (to k).count - ((sums k).count + 1) in
    let run = numbered_by forward before (left k) ∷ replicate size (numbered_by forward (before + 1) (left k - 1)) in
    let one = numbers_one forward (bytes k) (left k) (place k) (some k) before (there k) (sums k) (to k) (told k) (small_rest k) in
    let reached : (to k).count ≡ (sums k).count + length run = omega (arith, further k, length-replicate size (numbered_by forward (before + 1) (left k - 1))) in
    let fewer : c.args.left - (l.done + 1) ≡ c.args.left - l.done - 1 = omega arith in
    let more : c.args.before + (l.done + 1) ≡ c.args.before + l.done + 1 = omega arith in
    rw (c.next_at-at.ensures, fewer, more) (
      long_after was (sums k) own filled l.invariant.0,
      (turn_here (goal.at.loop-done-preserved c).In-loop-done).next,
      subst BoundedTally c.in-Ok.is c.tally_next.ensures.1,
      small_rest k,
      l.invariant.4 ∙ ap (fill was (sums k)) past ∙ fill_then was (sums k) own (elements_past forward (genome_end_of (here k)) others) filled ends,
      ap length numbered ∙ length-sets l.exons (sums k).count run ∙ l.invariant.5,
      l.invariant.6 ∙ ap (sets l.exons (sums k).count) one ∙ sets_then l.exons (sums k).count run (numbers_past forward (before + 1) others) numbered reached,
    )

pub returns-in-Err : goal.returns-in-Err
returns-in-Err c =
    let l = c.loop-done in
    let s = c.args.s.now in
    let told = sym c.in-Err.is ∙ c.tally_next.ensures.0 in
    absurd (subst SmallTally (rest_refused s (c.args.left - l.done) l.at (omega arith) (record_at s l.previous) l.from told) l.invariant.3)

pub returns : goal.returns
unfolding fill
returns c =
    let l = c.loop-done in
    let a = c.args in
    let left = a.left - l.done in
    let none = past_none a.forward (genome_end_of (record_at a.s.now l.previous)) l.from.count left a.s.now l.at (omega arith) in
    let unnumbered = numbers_none a.forward (a.before + l.done) l.from.count left a.s.now l.at (omega arith) in
    record { letters_after = sym (l.invariant.4 ∙ ap (fill (tables l.genome l.transcript l.letters) l.from) none); exons_after = sym (l.invariant.6 ∙ ap (sets l.exons l.from.count) unnumbered) }
