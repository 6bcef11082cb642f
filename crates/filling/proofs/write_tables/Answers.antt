-- `filling::write_tables` meets its contract: `fill_all` puts all elements in, `finish` puts the totals behind them, and tables so filled and finished are the elements' own (`fill_finished`); the numbers with 0 behind them are their table (`padded_whole`). Assumes nothing.
use mathlib.Core.Path.{◌≡◌, sym, ap, ap₂, subst, ◌∙◌}
use mathlib.Core.List.{List}
use Prim.Native.Nat.{ℕ, ◌-◌, ◌≤◌}
use native.Mathlib.Omega.{arith}
use lib.ListN.{length, replicate}
use lib.Seq.{sets, length-sets}
use Rattle.refusals.specs.Numbers.{most_segments}
use Rattle.records.specs.Records.{records_from}
use Rattle.reading.specs.Reading.{exons_of}
use Rattle.reading.specs.Tallies.{nothing}
use Rattle.segments.specs.Tables.{tables}
use Rattle.filling.specs.Filling.{tables_finished, elements_all, numbers_all, SmallTally}
use Rattle.reading.specs.declared.Sums.{Sums}
use Rattle.filling.proofs.Fills.{long_after}
use Rattle.filling.proofs.Past.{all_end}
use Rattle.filling.proofs.Numbers.{all_length}
use Rattle.filling.proofs.Finished.{padded_whole, fill_finished}
use Rattle.filling.proofs.write_tables.Goals as goal

pub fill_all-requires : goal.fill_all-requires
fill_all-requires c =
    let p = c.requires.ready in
    record { long = c.requires.long; exons_len = (c.requires.exons_len, p.0, p.1); small_tally = subst SmallTally (sym c.requires.s_value) p.2 }

pub finish-requires : goal.finish-requires
finish-requires c =
    let a = c.args in
    let was = tables a.genome.now a.transcript.now a.letters.now in
    (long_after was nothing (elements_all a.forward (exons_of (records_from a.count a.s.now 0))) c.fill_all.ensures.letters_after c.requires.long, c.requires.ready.2)

-- the numbers are in the table, which stays as long as it is
pub put_number-requires : goal.put_number-requires
put_number-requires c =
    let long = ap length c.fill_all.ensures.exons_after ∙ length-sets c.args.exons.now 0 (numbers_all c.args.forward (exons_of (records_from c.args.count c.args.s.now 0))) ∙ c.requires.exons_len in
    (omega (arith, long), omega (arith, long))

pub returns : goal.returns
returns c =
    let a = c.args in
    let was = tables a.genome.now a.transcript.now a.letters.now in
    let x = exons_of (records_from a.count a.s.now 0) in
    let es = elements_all a.forward x in
    let ks = numbers_all a.forward x in
    let ends = all_end a.forward x a.to c.requires.s_value in
    let few : length es ≤ most_segments = omega (arith, ap (λ (t : Sums). t.count) ends, c.requires.ready.2.few) in
    let many : length ks ≡ a.to.count = omega (arith, all_length a.forward x, ap (λ (t : Sums). t.count) ends) in record {
      letters_after = c.finish.ensures ∙ ap₂ tables_finished c.fill_all.ensures.letters_after ends ∙ fill_finished es few was c.requires.long;
      exons_after = c.put_number.ensures
          ∙ ap (λ (l : List ℕ). sets l a.to.count (replicate (most_segments - a.to.count) 0)) c.fill_all.ensures.exons_after
          ∙ padded_whole ks a.exons.now many c.requires.exons_len c.requires.ready.2.few;
    }
