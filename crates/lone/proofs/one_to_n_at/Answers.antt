-- `lone::one_to_n_at` meets its contract: as for `one_to_n`, where the segment with this number is the one that the finder says (`spot_at`). Assumes nothing.
use mathlib.Core.Bool.{true}
use mathlib.Core.Path.{◌≡◌, sym, ◌∙◌}
use lib.ListN.{get_or}
use mir.Syntax.{w64}
use Rattle.whole.specs.laws.Whole.{read, told}
use Rattle.spots.specs.laws.Spans.{same_number}
use Rattle.lone.specs.laws.Once.{one_answered, one_refused, spot_at}
use Rattle.segments.specs.Places.{segment_at}
use Rattle.segments.proofs.laws.Spotting.{spot_number}
use Rattle.spots.specs.Mapping.{inside, place_of_g}
use Rattle.lone.proofs.one_to_n_at.Goals as goal
use Rattle.lone.proofs.one_to_n_at.Tie as tie
use Rattle.lone.proofs.one_to_n_at.Lts as lts

place_is : (c : lts.After-place_of_g tie.the-claims tie.handed_pre tie.handed_post tie.handed_clauses) → c.place_of_g-p.result.0 ≡ place_of_g c.args.at.first c.args.g
place_is c = rw (read c.ranges.g) at c.place_of_g-p.ensures.0

-- the test that was made is 14's
test_is : (c : lts.After-is_inside tie.the-claims tie.handed_pre tie.handed_post tie.handed_clauses) →
    let a = c.args in
    inside true (get_or a.genome.now a.at.count 0) (place_of_g a.at.first a.g) ≡ c.is_inside.result
test_is c = sym (simp (c.last.ensures, place_is c.before.before) at c.is_inside.ensures)

pub found-exon-requires : goal.found-exon-requires
found-exon-requires c =
    let x = c.before in
    let s = x.before.before.before.before.before.before in
    (same_number x.map_at-start.ensures.said (rw (spot_number (segment_at _ _ _ s.args.number) _ _ _) s.requires.in_segment.on), s.requires.aligns.count_to)

pub returns-then-is_inside : goal.returns-then-is_inside
returns-then-is_inside c =
    let f = c.before.before in
    let x = f.before.before in
    let t = x.before in
    let i = t.before.before in
    let p = i.before.before in
    let s = p.before in
    let a = s.args in
    let within = test_is i ∙ t.if-is_inside.true in
    let start = rw (told w64 p.place_of_g-p.result.0 t.struct_told-1.given.0.1, place_is p) at x.map_at-start.ensures.said ∙ spot_at a.at _ a.exons.now s.requires.aligns true a.g a.number (s.requires.in_segment.here within) in
    simp (f.found-exon.ensures, f.behind.ensures, start, c.last-then-is_inside.ensures) at c.n_of_one.ensures
    ∙ sym (one_answered a.at _ _ s.requires.aligns true a.g within)

pub returns : goal.returns
returns c =
    let s = c.before.before.before.before in
    let a = s.args in
    sym (one_refused a.at _ _ s.requires.aligns true a.g (test_is c.before ∙ c.if-is_inside.false))
