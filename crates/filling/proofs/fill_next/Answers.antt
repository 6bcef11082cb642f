-- `filling::fill_next` meets its contract: the gap is put in, for which there is room, since all goes to `to`, and `fill_text` puts in the text as which the record reads (`next_accepted`). Assumes nothing.
use Prim.Native.Nat.{◌+◌, ◌-◌, ◌≤◌, ◌<◌}
use mathlib.Core.Path.{◌≡◌, sym, ap, ◌∙◌}
use native.Mathlib.Omega.{arith}
use lib.ListN.{take, drop}
use Rattle.refusals.specs.Numbers.{most_segments, most_bases}
use Rattle.cigar.specs.Elements.{letter_n}
use Rattle.cigar.specs.Text.{read_all, elements_in}
use Rattle.records.specs.Layout.{cigar_text}
use Rattle.records.specs.Records.{Record, next_at, record_at}
use Rattle.reading.specs.Reading.{between, read_next}
use Rattle.reading.specs.Tallies.{one_on, sums_on, tallied}
use Rattle.segments.specs.Tables.{Tables, tables}
use Rattle.filling.specs.Filling.{Long, put, fill}
use Rattle.reading.specs.declared.Sums.{Sums}
use Rattle.filling.proofs.Fills.{long_put, long_after}
use Rattle.filling.proofs.Taken.{ends_at, next_accepted}
use Rattle.filling.proofs.fill_next.Goals as goal
use Rattle.filling.proofs.fill_next.Goals.{After-slice_known-6-1}
use Rattle.filling.proofs.fill_next.Tie as tie
use Rattle.filling.proofs.fill_next.Lts as lts

module _ (s : lts.Start tie.the-claims tie.handed_pre tie.handed_post tie.handed_clauses) where
  abbrev there : Record
  there = record_at s.args.s.now s.args.previous

  abbrev here : Record
  here = record_at s.args.s.now s.args.at

  abbrev after : Sums
  after = one_on s.args.from (between there here)

  as_text : read_next s.args.from.count here
      ≡ read_all (most_segments - (s.args.from.count + 1)) (take (next_at s.args.s.now s.args.at - (s.args.at + cigar_text)) (drop (s.args.at + cigar_text) s.args.s.now))
  as_text = next_accepted s.args.s.now s.args.at s.requires.cigar_text_in_bounds.1 s.args.from.count after s.requires.at_value

  ends : s.args.to ≡ sums_on after (elements_in (read_next s.args.from.count here))
  ends = ends_at after s.args.to (read_next s.args.from.count here) s.requires.at_value

  room : s.args.from.count < most_segments
  room = omega (arith, ap (λ (t : Sums). t.count) ends, s.requires.bounded.1.few)

  on_genome : s.args.from.genome ≤ most_bases
  on_genome = omega (arith, ap (λ (t : Sums). t.genome) ends, s.requires.bounded.1.genome_small)

  on_transcript : s.args.from.transcript ≤ most_bases
  on_transcript = omega (arith, ap (λ (t : Sums). t.transcript) ends, s.requires.bounded.1.transcript_small)

  -- the tables with the gap
  abbrev with_gap : Tables
  with_gap = put (tables s.args.genome.now s.args.transcript.now s.args.letters.now) s.args.from letter_n

  long_gap : Long with_gap
  long_gap = long_put s.args.from letter_n s.requires.long

pub one_on-after-requires : goal.one_on-after-requires
one_on-after-requires c = let s = c.before.before.before.before.before.before in (s.requires.bounded.0, room s)

pub narrow-on_genome-requires : goal.narrow-on_genome-requires
narrow-on_genome-requires c = on_genome c.before.before.before.before.before.before.before

pub narrow-on_transcript-requires : goal.narrow-on_transcript-requires
narrow-on_transcript-requires c = on_transcript c.before.before.before.before.before.before.before.before

pub offset_bounds-genome-place : goal.offset_bounds-genome-place
offset_bounds-genome-place c = let r = room c.before.before.before.before.before.before.before.before.before in omega arith

pub bounds-genome-place : goal.bounds-genome-place
bounds-genome-place c = let s = c.before.before.before.before.before.before.before.before.before in omega (arith, room s, s.requires.long.genome_long)

pub offset_bounds-transcript-place : goal.offset_bounds-transcript-place
offset_bounds-transcript-place c = let r = room c.before.before.before.before.before.before.before.before.before in omega arith

pub bounds-transcript-place : goal.bounds-transcript-place
bounds-transcript-place c = let s = c.before.before.before.before.before.before.before.before.before in omega (arith, room s, s.requires.long.transcript_long)

pub bounds-letters-place : goal.bounds-letters-place
bounds-letters-place c = let s = c.before.before.before.before.before.before.before.before.before in omega (arith, room s, s.requires.long.letters_long)

pub fill_text-requires : goal.fill_text-requires
fill_text-requires c =
    let gap = c.before.before.before.before.before.before.before.before.before in
    let s = gap.before.before.before.before.before in
    let on = c.one_on-after.ensures in
    let told = sym (ap (tallied (after s)) (as_text s)) ∙ s.requires.at_value in
    rw (c.narrow-on_genome.ensures, c.narrow-on_transcript.ensures, c.next_at-end.ensures, on.0, c.gap_at-gap.ensures)
    record { long = long_gap s; text_value = told; bounded = (rw (on.0, c.gap_at-gap.ensures) at on.1, s.requires.bounded.1) }

pub returns : goal.returns
unfolding fill
returns c =
    let filled = c.before.before.before.before.before.before.before in
    let next = filled.before.before.before.before.before in
    let on = next.before.before.before in
    let gap = on.before in
    let s = gap.before.before.before.before.before in
    let told =
    rw (
      next.narrow-on_genome.ensures,
      next.narrow-on_transcript.ensures,
      next.next_at-end.ensures,
      on.one_on-after.ensures.0,
      gap.gap_at-gap.ensures,
    ) at filled.fill_text.ensures in
    rw (as_text s) told

-- the entry of the function, seen from where it returns: before the gap was measured
abbrev entry : lts.After-slice_known6 tie.the-claims tie.handed_pre tie.handed_post tie.handed_clauses → lts.Start tie.the-claims tie.handed_pre tie.handed_post tie.handed_clauses
entry c =
    let filled = c.before.before.before.before.before.before in
    let gap = filled.before.before.before.before.before.before.before.before.before in
    gap.before.before.before.before.before

-- the tables stay as long as they are
long : (c : After-slice_known-6-1) → let l = c.fill_text.new in Long (tables l.genome l.transcript l.letters)
long c =
    let s = entry c.before in
    long_after (tables s.args.genome.now s.args.transcript.now s.args.letters.now) s.args.from _ (returns c) s.requires.long

pub shape_of-genome : goal.shape_of-genome
shape_of-genome c = (long c).genome_long ∙ sym (entry c.before).requires.long.genome_long

pub shape_of-transcript : goal.shape_of-transcript
shape_of-transcript c = (long c).transcript_long ∙ sym (entry c.before).requires.long.transcript_long

pub shape_of-letters : goal.shape_of-letters
shape_of-letters c = (long c).letters_long ∙ sym (entry c.before).requires.long.letters_long
