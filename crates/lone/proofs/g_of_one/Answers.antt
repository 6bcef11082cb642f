-- `lone::g_of_one` meets its contract: `place_of_n` gives the turned place, so that the test made is 14's; by it the answer is that of the one spot (`one_back`) or 14 (`one_back_refused`). Assumes nothing.
use mathlib.Core.Path.{◌≡◌, sym, ◌∙◌}
use lib.ListN.{get_or}
use Rattle.whole.specs.laws.Whole.{read}
use Rattle.numbering.specs.Numbers.{place_of_n}
use Rattle.spots.specs.Mapping.{inside, turned}
use Rattle.lone.specs.laws.Once.{one_back, one_back_refused}
use Rattle.lone.proofs.g_of_one.Goals as goal
use Rattle.lone.proofs.g_of_one.Tie as tie
use Rattle.lone.proofs.g_of_one.Lts as lts

place_is : (c : lts.After-place_of_n tie.the-claims tie.handed_pre tie.handed_post tie.handed_clauses) →
    let a = c.args in
    c.place_of_n-p.result.0 ≡ turned a.at.forward (get_or a.transcript.now a.at.count 0) (place_of_n a.base)
place_is c = simp (c.last-len.ensures, read c.ranges.base) at c.place_of_n-p.ensures.0

-- the test that was made is 14's
test_is : (c : lts.After-is_inside tie.the-claims tie.handed_pre tie.handed_post tie.handed_clauses) →
    let a = c.args in
    let len = get_or a.transcript.now a.at.count 0 in
    inside a.strict len (turned a.at.forward len (place_of_n a.base)) ≡ c.is_inside.result
test_is c = sym (simp (c.last-len.ensures, place_is c.before) at c.is_inside.ensures)

pub returns-then-is_inside : goal.returns-then-is_inside
returns-then-is_inside c =
    let x = c.before in
    let t = x.before in
    let p = t.before.before in
    let s = p.before.before in
    let a = s.args in
    let start = rw (place_is p) at x.spot_of_n-start.ensures.said in
    simp (start, read s.ranges.o, read s.ranges.u) at c.g_of_start.ensures
    ∙ sym (one_back a.at _ _ s.requires a.strict a.base a.o a.u (test_is t.before ∙ t.if-is_inside.true))

pub returns : goal.returns
returns c =
    let s = c.before.before.before.before in
    let a = s.args in
    sym (one_back_refused a.at _ _ s.requires a.strict a.base a.o a.u (test_is c.before ∙ c.if-is_inside.false))
