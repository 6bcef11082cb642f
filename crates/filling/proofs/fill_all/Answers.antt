-- `filling::fill_all` meets its contract: the first record's elements end where the rest begin (`first_ends`), so that the two fills are one (`fill_then`), and so are the two runs of numbers (`sets_then`); a small tally is no refusal. Assumes nothing.
use mathlib.Core.Path.{◌≡◌, sym, ap, subst, ◌∙◌}
use mathlib.Core.List.{List}
use Prim.Native.Nat.{ℕ, ◌+◌, ◌-◌}
use native.Mathlib.Nat.{sub-zero}
use native.Mathlib.Omega.{arith}
use lib.ListN.{length, replicate, length-replicate}
use lib.Seq.{sets, length-sets}
use Rattle.refusals.specs.Outcome.{Ok}
use Rattle.records.specs.Records.{next_at, record_at, records_from}
use Rattle.records.specs.Walk.{Ready}
use Rattle.transcript.specs.Building.{numbered_by}
use Rattle.cigar.specs.Text.{elements_in}
use Rattle.reading.specs.Reading.{spanned, genome_end_of, read_first, exons_after}
use Rattle.reading.specs.Tallies.{nothing, BoundedTally, tallied, tallied_after}
use Rattle.reading.specs.declared.Sums.{Sums}
use Rattle.reading.proofs.laws.Tallied.{first_sums, first_refused}
use Rattle.segments.specs.Tables.{tables}
use Rattle.filling.specs.Filling.{fill, ordered, elements_past, numbers_past, SmallSums, SmallTally}
use Rattle.filling.proofs.Fills.{long_after}
use Rattle.filling.proofs.Past.{fill_then, small_so_far, first_told, first_ends, all_one}
use Rattle.filling.proofs.Numbers.{numbers_first}
use Rattle.filling.proofs.Runs.{sets_then}
use Rattle.filling.proofs.fill_all.Goals as goal
use Rattle.filling.proofs.fill_all.Goals.{In-Ok, After-put_number}

-- where the first record was tallied
module _ (c : In-Ok) where
  abbrev first : Sums
  first = c.in-Ok.first

  ready : Ready c.args.count c.args.s.now
  ready = c.requires.exons_len.1

  told : let r = record_at c.args.s.now 0 in tallied nothing (spanned r (read_first r)) ≡ Ok first
  told = sym c.tally_first.ensures.0 ∙ c.in-Ok.is

  small_rest : let s = c.args.s.now in
      SmallTally (tallied_after (genome_end_of (record_at s 0)) first (exons_after first.count (records_from (c.args.count - 1) s (next_at s 0))))
  small_rest = subst SmallTally (first_sums c.args.s.now c.args.count 0 ready.some (sym told)) c.requires.small_tally

  small_first : SmallSums first
  small_first = let s = c.args.s.now in small_so_far (genome_end_of (record_at s 0)) first (exons_after first.count (records_from (c.args.count - 1) s (next_at s 0))) small_rest

pub fill_first-requires : goal.fill_first-requires
fill_first-requires c =
    let k = (goal.at.fill_first-requires c).In-Ok in
    record { long = c.requires.long; stands = ((ready k).stands, small_first k); s_value = first_told c.args.forward c.args.s.now c.args.count 0 (ready k).some (told k) }

pub overflow_sub-left : goal.overflow_sub-left
overflow_sub-left c = omega (arith, (ready (goal.at.overflow_sub-left c).In-Ok).some)

pub number_of-own-requires : goal.number_of-own-requires
number_of-own-requires c = (omega arith, omega (arith, (ready (goal.at.number_of-own-requires c).In-Ok).some, c.requires.exons_len.2))

pub put_number-requires : goal.put_number-requires
put_number-requires c =
    let small = (small_first (goal.at.put_number-requires c).In-Ok).few in
    (omega (arith, c.requires.exons_len.0, small), omega (arith, c.requires.exons_len.0))

pub next_at-at-requires : goal.next_at-at-requires
next_at-at-requires c = (ready (goal.at.next_at-at-requires c).In-Ok).stands.numbers

-- the first record's numbers were put in
module _ (c : After-put_number) where
  abbrev own : List ℕ
  own = replicate c.in-Ok.first.count (numbered_by c.args.forward 0 (c.args.count - 1))

  first_numbered : c.put_number.new.exons ≡ sets c.args.exons.now 0 own
  first_numbered = rw (c.number_of-own.ensures, sub-zero c.in-Ok.first.count) at c.put_number.ensures

pub fill_rest-requires : goal.fill_rest-requires
fill_rest-requires c =
    let k = (goal.at.fill_rest-requires c).In-Ok in
    let numbered = (goal.at.fill_rest-requires c).After-put_number in
    let a = c.args in
    let was = tables a.genome.now a.transcript.now a.letters.now in
    let own_elements = ordered a.forward (elements_in (read_first (record_at a.s.now 0))) in
    let bounded = subst BoundedTally c.in-Ok.is c.tally_first.ensures.1 in
    let long = ap length (first_numbered numbered) ∙ length-sets a.exons.now 0 (own numbered) ∙ c.requires.exons_len.0 in
    rw c.next_at-at.ensures
    record { long = long_after was nothing own_elements c.fill_first.ensures c.requires.long; exons_len = (long, omega (arith, (ready k).some, c.requires.exons_len.2)); walk = ((ready k).next, bounded); small_tally = small_rest k }

pub returns-in-Err : goal.returns-in-Err
returns-in-Err c =
    let told = sym c.in-Err.is ∙ c.tally_first.ensures.0 in
    absurd (subst SmallTally (first_refused c.args.s.now c.args.count 0 c.requires.exons_len.1.some told) c.requires.small_tally)

pub returns : goal.returns
returns c =
    let k = (goal.at.returns c).In-Ok in
    let numbered = (goal.at.returns c).After-put_number in
    let a = c.args in
    let s = a.s.now in
    let was = tables a.genome.now a.transcript.now a.letters.now in
    let own_elements = ordered a.forward (elements_in (read_first (record_at s 0))) in
    let others = exons_after (first k).count (records_from (a.count - 1) s (next_at s 0)) in
    let all = all_one a.forward s a.count 0 (ready k).some (told k) (small_rest k) in
    let ends = first_ends a.forward s a.count 0 (ready k).some (told k) in
    let after = rw c.next_at-at.ensures at c.fill_rest.ensures in
    let numbers = numbers_first a.forward s a.count 0 (ready k).some (first k) (told k) (small_rest k) in
    let reached : (first k).count ≡ 0 + length (own numbered) = omega (arith, length-replicate (first k).count (numbered_by a.forward 0 (a.count - 1))) in
    record { letters_after = after.letters_after ∙ sym (ap (fill was nothing) all ∙ fill_then was nothing own_elements (elements_past a.forward (genome_end_of (record_at s 0)) others) c.fill_first.ensures ends); exons_after = after.exons_after ∙ sym (ap (sets a.exons.now 0) numbers ∙ sets_then a.exons.now 0 (own numbered) (numbers_past a.forward 0 others) (first_numbered numbered) reached) }
