-- `reading::tally_next` meets its contract: a large CIGAR and a full table are refused (`next_large`, `next_full`); otherwise the text (`next_read`) is tallied from the sums with the gap, with 32. Assumes nothing.
use Rattle.reading.specs.declared.Sums.{Sums}
use Rattle.refusals.specs.Outcome.{Outcome}
use mathlib.Core.Path.{sym, ap, ◌∙◌}
use native.Mathlib.Omega.{arith}
use Rattle.cigar.specs.Text.{Reading}
use Rattle.records.specs.Records.{record_at}
use Rattle.reading.specs.Reading.{between, spanned}
use Rattle.reading.specs.Tallies.{one_on, tallied}
use Rattle.reading.specs.laws.Sizes.{next_large, next_full, next_read}
use Rattle.reading.proofs.tally_next.Goals as goal
use Rattle.reading.proofs.tally_next.Goals.{Start}

-- a reading's tally, from the sums with the gap and with 32
abbrev told : Start → Reading → Outcome Sums
told s read =
    let here = record_at s.args.s.now s.args.at in
    tallied (one_on s.args.from (between (record_at s.args.s.now s.args.previous) here)) (spanned here read)

pub returns-then-to-start-gt-MOST_TEXT : goal.returns-then-to-start-gt-MOST_TEXT
returns-then-to-start-gt-MOST_TEXT c =
    (sym (ap (told (goal.at.returns-then-to-start-gt-MOST_TEXT c).Start) (next_large c.args.s.now c.args.at c.requires.cigar_text_in_bounds.1 c.args.from.count (omega arith))), tt)

pub returns-then-from-eq-MOST_SEGMENTS : goal.returns-then-from-eq-MOST_SEGMENTS
returns-then-from-eq-MOST_SEGMENTS c =
    (sym (ap (told (goal.at.returns-then-from-eq-MOST_SEGMENTS c).Start) (next_full c.args.s.now c.args.at c.requires.cigar_text_in_bounds.1 c.args.from.count (omega arith) c.if-from-eq-MOST_SEGMENTS.true)), tt)

pub returns : goal.returns
returns c =
    let on = c.one_on.ensures.0 in
    let gap = c.gap_at-gap.ensures in
    let e = c.tally_record.ensures in
    let read = next_read c.args.s.now c.args.at c.requires.cigar_text_in_bounds.1 c.args.from.count (omega arith) c.if-from-eq-MOST_SEGMENTS.false in
    (rw (on, gap) at e.0 ∙ sym (ap (told (goal.at.returns c).Start) read), e.1)
