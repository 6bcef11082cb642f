-- `spots::spot_at_g` meets its contract: tables that hold together rise, so that the number at hand is the finder's, and what the tables map the place to is what their elements do. Assumes nothing.
use mathlib.Core.List.{[]}
use mathlib.Core.Path.{◌≡◌, sym, ◌∙◌}
use mir.Syntax.{w64}
use Rattle.whole.specs.laws.Whole.{told}
use Rattle.finding.specs.Finding.{index_of}
use Rattle.segments.specs.Places.{map_by_tables}
use Rattle.segments.specs.Places.End.{start}
use Rattle.segments.specs.Paper.{spot_said}
use Rattle.segments.specs.Tables.{tables, Holds}
use Rattle.segments.specs.laws.Meaning.{holds_means}
use Rattle.segments.specs.laws.Reading.{by_genome}
use Rattle.spots.specs.laws.Spans.{on_transcript, same_number}
use Rattle.spots.proofs.spot_at_g.Goals as goal
use Rattle.spots.proofs.spot_at_g.Tie as tie
use Rattle.spots.proofs.spot_at_g.Lts as lts

held : (c : lts.Start tie.the-claims tie.handed_pre tie.handed_post tie.handed_clauses) → let a = c.args in Holds (tables a.genome.now a.transcript.now a.letters.now) a.at.count
held c = holds_means _ _ c.requires.0.segments

number_is : (c : lts.Start tie.the-claims tie.handed_pre tie.handed_post tie.handed_clauses) → let a = c.args in a.number ≡ index_of a.genome.now a.at.count a.p.0
number_is c = c.requires.2.here (held c).genome_rises

by_tables : (c : lts.After-map_at tie.the-claims tie.handed_pre tie.handed_post tie.handed_clauses) → let a = c.args in
    spot_said c.map_at.result ≡ map_by_tables a.genome.now a.transcript.now a.letters.now a.at.count a.p.0 start a.at.forward
unfolding map_by_tables
by_tables c =
    let s = c.before.before in
    rw (sym (number_is s)) (simp (told w64 s.args.p.0 c.struct_told-1.given.0.1) at c.map_at.ensures.said)

pub returns : goal.returns
returns c =
    let s = c.before.before in
    let spot = by_tables c ∙ by_genome _ _ (held s) s.requires.0.count_from _ _ _ in
    record { said = spot; small = (c.map_at.ensures.small, same_number spot (on_transcript s.args.at _ [] s.requires.0 _ _ _)) }
