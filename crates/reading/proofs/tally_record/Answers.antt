-- `reading::tally_record` meets its contract: the text that `tally_text` reads is the record's CIGAR (`cigar_is`), what it tallied from `from` on is the elements' genome length, and 32 stands or falls by it. Assumes nothing.
use mathlib.Core.Path.{◌≡◌, sym, ap₂, subst, ◌∙◌}
use Prim.Native.Nat.{◌-◌, ◌≤◌}
use native.Mathlib.Omega.{arith}
use lib.IntN.{ℤ}
use mir.Syntax.{w32}
use Rattle.std.proofs.lemmas.Result.{err_from_is_err_and}
use Rattle.refusals.specs.Numbers.{most_segments}
use Rattle.refusals.specs.Outcome.{Ok, Outcome}
use Rattle.whole.specs.laws.Whole as word
use Rattle.cigar.specs.Text.{Reading, read_all}
use Rattle.records.specs.Records.{Record, record_at}
use Rattle.reading.specs.Reading.{spans}
use Rattle.reading.specs.Tallies.{Bounded, BoundedTally, tallied}
use Rattle.reading.specs.laws.Sizes.{cigar_is}
use Rattle.reading.specs.laws.Spans.{tallied_grows, tallied_passes, tallied_short, tallied_refused}
use Rattle.reading.specs.declared.Sums.{Sums}
use Rattle.reading.proofs.tally_record.Goals as goal
use Rattle.reading.proofs.tally_record.Goals.{After-tally_text, After-spans}

-- the text was tallied
module _ (c : After-tally_text) where
  abbrev here : Record
  here = record_at c.args.s.now c.args.at

  -- the record's own reading
  abbrev read : Reading
  read = read_all (most_segments - c.args.from.count) here.cigar

  own : {t : Outcome Sums} → c.tally_text.result ≡ t → tallied c.args.from read ≡ t
  own q = rw (cigar_is c.args.s.now c.args.at c.requires.0) (sym (rw c.next_at-end.ensures at c.tally_text.ensures.0) ∙ q)

  -- and not refused
  module _ {to : Sums} (q : c.tally_text.result ≡ Ok to) where
    bounded : Bounded to
    bounded = subst BoundedTally q c.tally_text.ensures.1

    grows : c.args.from.genome ≤ to.genome
    grows = tallied_grows c.args.from read (own q)

pub overflow_sub-length : goal.overflow_sub-length
overflow_sub-length c = grows (goal.at.overflow_sub-length c).After-tally_text c.in_ok-to.was

pub spans-requires : goal.spans-requires
spans-requires c = let b = bounded (goal.at.spans-requires c).After-tally_text c.in_ok-to.was in omega (arith, b.few, b.genome_small)

-- the test of 32, as the definition has it
tested : (c : After-spans) → let r = record_at c.args.s.now c.args.at in
    c.spans.result ≡ spans r.alt_start r.alt_end (c.in_ok-to.to.genome - c.args.from.genome)
unfolding record_at
tested c =
    let starts = c.i32_at-alt_start in
    let ends = c.i32_at-alt_end in
    c.spans.ensures
    ∙ ap₂ (λ (start end : ℤ). spans start end (c.in_ok-to.to.genome - c.args.from.genome)) (word.told w32 _ starts.type_inv ∙ starts.ensures) (word.told w32 _ ends.type_inv ∙ ends.ensures)

pub returns-then-spans : goal.returns-then-spans
returns-then-spans c =
    let t = (goal.at.returns-then-spans c).After-tally_text in
    let q = c.in_ok-to.was in
    (sym (tallied_passes (here t) c.args.from (read t) (own t q) (sym (tested (goal.at.returns-then-spans c).After-spans) ∙ c.if-spans.true)), bounded t q)

pub returns : goal.returns
returns c =
    let t = (goal.at.returns c).After-tally_text in
    (sym (tallied_short (here t) c.args.from (read t) (own t c.in_ok-to.was) (sym (tested (goal.at.returns c).After-spans) ∙ c.if-spans.false)), tt)

pub returns-in_err-to : goal.returns-in_err-to
returns-in_err-to c =
    let t = (goal.at.returns-in_err-to c).After-tally_text in
    let p = err_from_is_err_and c.from_residual.result c.from_residual.ensures.1 in
    rw (p.1, p.2) (sym (tallied_refused (here t) c.args.from (read t) (own t c.in_err-to.was)), tt)
