-- `filling::fill_first` meets its contract: a record whose tally is no refusal reads as its text does (`first_accepted`), and `fill_text` puts that text's elements in. Assumes nothing.
use Prim.Native.Nat.{◌-◌}
use mathlib.Core.Path.{◌≡◌, sym, ap, ◌∙◌}
use native.Mathlib.Omega.{arith}
use lib.ListN.{take, drop}
use Rattle.refusals.specs.Numbers.{most_segments}
use Rattle.cigar.specs.Text.{read_all}
use Rattle.records.specs.Layout.{cigar_text}
use Rattle.records.specs.Records.{next_at, record_at}
use Rattle.reading.specs.Reading.{read_first}
use Rattle.reading.specs.Tallies.{nothing, tallied}
use Rattle.filling.proofs.Taken.{first_accepted}
use Rattle.filling.proofs.fill_first.Goals as goal
use Rattle.filling.proofs.fill_first.Goals.{Start}

as_text : (s : Start) → read_first (record_at s.args.s.now 0)
    ≡ read_all most_segments (take (next_at s.args.s.now 0 - cigar_text) (drop cigar_text s.args.s.now))
as_text s = first_accepted s.args.s.now 0 s.requires.stands.0 s.requires.s_value

pub fill_text-requires : goal.fill_text-requires
fill_text-requires c =
    let told = sym (ap (tallied nothing) (as_text (goal.at.fill_text-requires c).Start)) ∙ c.requires.s_value in
    record { long = c.requires.long; text_value = rw c.next_at-end.ensures told; bounded = (record { few = omega arith; genome_small = omega arith; transcript_small = omega arith }, c.requires.stands.1) }

pub returns : goal.returns
returns c =
    rw (as_text (goal.at.returns c).Start, ← c.next_at-end.ensures) c.fill_text.ensures
