-- The tables hold together, so that they rise; the place is mapped by the segment with the number that was found for it, and what the tables map it to is what their elements do. Assumes nothing.
use native.Mathlib.Omega.{arith}
use mathlib.Core.Bool.{true}
use mathlib.Core.Path.{◌≡◌, sym, ◌∙◌}
use Rattle.whole.specs.laws.Whole.{read}
use Rattle.segments.specs.Paper.{end_said, spot_said}
use Rattle.finding.specs.Finding.{index_of}
use Rattle.segments.specs.Places.{map_by_tables}
use Rattle.segments.specs.Tables.{tables, Holds}
use Rattle.segments.specs.laws.Meaning.{holds_means}
use Rattle.segments.specs.laws.Reading.{by_transcript}
use Rattle.segments.proofs.Bounds.{fits_36}
use Rattle.segments.proofs.transcript_to_genome.Goals as goal
use Rattle.segments.proofs.transcript_to_genome.Tie as tie
use Rattle.segments.proofs.transcript_to_genome.Lts as lts

held : (c : lts.Start tie.the-claims tie.handed_pre tie.handed_post tie.handed_clauses) → let a = c.args in Holds (tables a.genome.now a.transcript.now a.letters.now) a.count
held c = holds_means _ _ c.requires.count_value

found : (c : lts.After-find tie.the-claims tie.handed_pre tie.handed_post tie.handed_clauses) → let a = c.args in c.find-number.result ≡ index_of a.transcript.now a.count a.p.0
found c = simp (read (fits_36 c.requires.within)) at (c.find-number.ensures.found (held c.before.before).transcript_rises)

pub map_at-requires : goal.map_at-requires
map_at-requires c =
    let w = c.requires.within in
    record { number_lt_most_segments = omega (arith, c.find-number.ensures.within); within = simp (read (fits_36 w)) w }

by_tables : (c : lts.After-map_at tie.the-claims tie.handed_pre tie.handed_post tie.handed_clauses) → let a = c.args in spot_said c.map_at.result ≡ map_by_tables a.transcript.now a.genome.now a.letters.now a.count a.p.0 (end_said a.end) true
unfolding map_by_tables
by_tables c = let p = read (fits_36 c.requires.within) in rw (sym (found c.before)) (simp p at c.map_at.ensures.said)

pub returns : goal.returns
returns c = record { said = by_tables c ∙ by_transcript _ _ (held c.before.before.before) (omega arith) _ _ _; small = c.map_at.ensures.small }
