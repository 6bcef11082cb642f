-- `places::g_of_ends` meets its contract: where both numbers are one, `g_of_one` answers for them. Otherwise `place_of_n` gives the turned places, so that the test made is 14's; by it the answer is `gJoined` of the two spots (`g_answered`) or 14 (`g_refused`). Assumes nothing.
use mathlib.Core.Path.{◌≡◌, sym, ◌∙◌}
use lib.ListN.{get_or}
use mir.Syntax.{w32}
use Rattle.whole.specs.laws.Whole.{told}
use Rattle.numbering.specs.Numbers.{place_of_n}
use Rattle.spots.specs.Mapping.{turned}
use Rattle.positions.specs.Paper.{paper_n_asked}
use Rattle.spots.specs.laws.Spans.{g_answered, g_refused, t_inside}
use Rattle.segments.specs.Tables.{tables}
use Rattle.places.proofs.g_of_ends.Goals as goal
use Rattle.places.proofs.g_of_ends.Tie as tie
use Rattle.places.proofs.g_of_ends.Lts as lts

from_is : (c : lts.After-place_of_n tie.the-claims tie.handed_pre tie.handed_post tie.handed_clauses) →
    let a = c.args in
    c.place_of_n-p.result.0 ≡ turned a.at.forward (get_or a.transcript.now a.at.count 0) (place_of_n a.a.base)
from_is c =
    let t = c.before.before.before.before in
    simp (c.last-len.ensures, told w32 t.args.a.base t.struct_told-1.given.0.1) at c.place_of_n-p.ensures.0

to_is : (c : lts.After-place_of_n2 tie.the-claims tie.handed_pre tie.handed_post tie.handed_clauses) →
    let a = c.args in
    c.place_of_n-q.result.0 ≡ turned a.at.forward (get_or a.transcript.now a.at.count 0) (place_of_n a.b.base)
to_is c =
    let l = c.before.before in
    let t = l.before.before in
    simp (l.last-len.ensures, told w32 t.args.b.base t.struct_told-2-1.given.0.1) at c.place_of_n-q.ensures.0

-- the test that was made is 14's
test_is : (c : lts.After-are_inside tie.the-claims tie.handed_pre tie.handed_post tie.handed_clauses) →
    let s = c.before.before.before.before.before.before.before in
    let a = s.args in
    t_inside a.at (tables a.genome.now a.transcript.now a.letters.now) a.exons.now s.requires a.strict (paper_n_asked a.a) (paper_n_asked a.b) ≡ c.are_inside.result
test_is c =
    let q = c.before in
    let p = q.before in
    sym (simp (p.last-len.ensures, to_is q, from_is p) at c.are_inside.ensures)

pub returns-then-are_inside : goal.returns-then-are_inside
returns-then-are_inside c =
    let e = c.before.before.before in
    let y = e.before in
    let x = y.before in
    let t = x.before in
    let q = t.before.before in
    let p = q.before in
    let s = p.before.before.before.before.before in
    let a = s.args in
    let from = rw (from_is p) at x.spot_of_n-start.ensures.said in
    let to = rw (to_is q) at y.spot_of_n-stop.ensures.said in
    let o = told w32 a.a.offset c.struct_told-then-are_inside-1.given.1.0.1 in
    let u = told w32 a.b.offset c.struct_told-then-are_inside-2-1.given.1.0.1 in
    rw (g_answered a.at _ _ s.requires a.strict (paper_n_asked a.a) (paper_n_asked a.b) (test_is t.before ∙ t.if-are_inside.true))
    (simp (e.chosen_exons-numbers.ensures, from, to, o, u) at c.g_answer.ensures)

pub returns : goal.returns
returns c =
    let s = c.before.before.before.before.before.before.before.before in
    let a = s.args in
    sym (g_refused a.at _ _ s.requires a.strict (paper_n_asked a.a) (paper_n_asked a.b) (test_is c.before ∙ c.if-are_inside.false))
