-- `reading::tally_first` meets its contract: a CIGAR over the largest size is refused (`first_large`), and any other reads as its text (`first_read`), which is tallied from nothing, with 32. Assumes nothing.
use Rattle.reading.specs.declared.Sums.{Sums}
use Rattle.refusals.specs.Outcome.{Outcome}
use mathlib.Core.Path.{sym, ap, ◌∙◌}
use native.Mathlib.Omega.{arith}
use Rattle.cigar.specs.Text.{Reading}
use Rattle.records.specs.Records.{record_at}
use Rattle.reading.specs.Reading.{spanned}
use Rattle.reading.specs.Tallies.{nothing, tallied}
use Rattle.reading.specs.laws.Sizes.{first_large, first_read}
use Rattle.reading.proofs.tally_first.Goals as goal
use Rattle.reading.proofs.tally_first.Goals.{Start}

-- a reading's tally, with 32
abbrev told : Start → Reading → Outcome Sums
told s read = tallied nothing (spanned (record_at s.args.s.now 0) read)

pub returns-then-to-gt-MOST_TEXT : goal.returns-then-to-gt-MOST_TEXT
returns-then-to-gt-MOST_TEXT c =
    (sym (ap (told (goal.at.returns-then-to-gt-MOST_TEXT c).Start) (first_large c.args.s.now 0 c.requires (omega arith))), tt)

pub returns : goal.returns
returns c =
    let e = c.tally_record.ensures in
    (e.0 ∙ sym (ap (told (goal.at.returns c).Start) (first_read c.args.s.now 0 c.requires (omega arith))), e.1)
