-- `lone::one_to_n` meets its contract: `place_of_g` gives the place, so that the test made is 14's; by it the answer is that of the one spot (`one_answered`) or 14 (`one_refused`). Assumes nothing.
use mathlib.Core.Path.{◌≡◌, sym, ◌∙◌}
use lib.ListN.{get_or}
use Rattle.whole.specs.laws.Whole.{read}
use Rattle.lone.specs.laws.Once.{one_answered, one_refused}
use Rattle.spots.specs.Mapping.{inside, place_of_g}
use Rattle.lone.proofs.one_to_n.Goals as goal
use Rattle.lone.proofs.one_to_n.Tie as tie
use Rattle.lone.proofs.one_to_n.Lts as lts

place_is : (c : lts.After-place_of_g tie.the-claims tie.handed_pre tie.handed_post tie.handed_clauses) → c.place_of_g-place.result.0 ≡ place_of_g c.args.at.first c.args.g
place_is c = rw (read c.ranges.g) at c.place_of_g-place.ensures.0

-- the test that was made is 14's
test_is : (c : lts.After-is_inside tie.the-claims tie.handed_pre tie.handed_post tie.handed_clauses) →
    let a = c.args in
    inside a.strict (get_or a.genome.now a.at.count 0) (place_of_g a.at.first a.g) ≡ c.is_inside.result
test_is c = sym (simp (c.last.ensures, place_is c.before.before) at c.is_inside.ensures)

pub returns-then-is_inside : goal.returns-then-is_inside
returns-then-is_inside c =
    let f = c.before.before in
    let x = f.before.before in
    let t = x.before in
    let p = t.before.before.before in
    let s = p.before in
    let a = s.args in
    let start = rw (place_is p) at x.spot_of_g-start.ensures.said in
    simp (f.found-exon.ensures, f.behind.ensures, start, c.last-then-is_inside.ensures) at c.n_of_one.ensures
    ∙ sym (one_answered a.at _ _ s.requires a.strict a.g (test_is t.before ∙ t.if-is_inside.true))

pub returns : goal.returns
returns c =
    let s = c.before.before.before.before in
    let a = s.args in
    sym (one_refused a.at _ _ s.requires a.strict a.g (test_is c.before ∙ c.if-is_inside.false))
