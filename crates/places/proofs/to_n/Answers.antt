-- `places::to_n` meets its contract: where both numbers are one, `one_to_n` answers for them. Otherwise `place_of_g` gives the places, so that the test made is 14's; by it the answer is `nJoined` of the two spots (`n_answered`) or 14 (`n_refused`). Assumes nothing.
use mathlib.Core.Path.{◌≡◌, sym, ◌∙◌}
use Rattle.whole.specs.laws.Whole.{read}
use Rattle.spots.specs.laws.Spans.{n_answered, n_refused, g_inside}
use Rattle.spots.specs.Mapping.{place_of_g}
use Rattle.segments.specs.Tables.{tables}
use Rattle.places.proofs.to_n.Goals as goal
use Rattle.places.proofs.to_n.Tie as tie
use Rattle.places.proofs.to_n.Lts as lts

from_is : (c : lts.After-place_of_g tie.the-claims tie.handed_pre tie.handed_post tie.handed_clauses) → c.place_of_g-p.result.0 ≡ place_of_g c.args.at.first c.args.from
from_is c = rw (read c.ranges.from) at c.place_of_g-p.ensures.0

to_is : (c : lts.After-place_of_g2 tie.the-claims tie.handed_pre tie.handed_post tie.handed_clauses) → c.place_of_g-q.result.0 ≡ place_of_g c.args.at.first c.args.to
to_is c = rw (read c.ranges.to) at c.place_of_g-q.ensures.0

-- the test that was made is 14's
test_is : (c : lts.After-are_inside tie.the-claims tie.handed_pre tie.handed_post tie.handed_clauses) →
    let s = c.before.before.before.before.before in
    let a = s.args in
    g_inside a.at (tables a.genome.now a.transcript.now a.letters.now) a.exons.now s.requires a.strict a.from a.to ≡ c.are_inside.result
test_is c =
    let q = c.before.before in
    sym (simp (c.last.ensures, to_is q, from_is q.before) at c.are_inside.ensures)

pub returns-then-are_inside : goal.returns-then-are_inside
returns-then-are_inside c =
    let f = c.before.before in
    let y = f.before in
    let x = y.before in
    let t = x.before in
    let q = t.before.before.before in
    let s = q.before.before.before in
    let a = s.args in
    let from = rw (from_is q.before) at x.spot_of_g-a.ensures.said in
    let to = rw (to_is q) at y.spot_of_g-b.ensures.said in
    rw (n_answered a.at _ _ s.requires a.strict a.from a.to (test_is t.before ∙ t.if-are_inside.true))
    (simp (from, to, f.found_exons-numbers.ensures, c.last-then-are_inside.ensures) at c.n_answer.ensures)

pub returns : goal.returns
returns c =
    let s = c.before.before.before.before.before.before in
    let a = s.args in
    sym (n_refused a.at _ _ s.requires a.strict a.from a.to (test_is c.before ∙ c.if-are_inside.false))
