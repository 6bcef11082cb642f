-- `finding::find_from` meets its contract. The loop's invariant: the segment where it stands is not past the one sought. Assumes nothing.
use Rattle.std.proofs.Common.{◌-◌, ◌≡◌, sym, ◌∙◌, arith}
use Rattle.whole.specs.laws.Whole.{read}
use Rattle.finding.specs.laws.Index.{index_says, walk_arrives, walk_goes_on, walk_ends}
use Rattle.finding.proofs.find_from.Goals as goal

pub returns-then-is_above : goal.returns-then-is_above
returns-then-is_above c =
    let p = read c.ranges.p in
    walk_arrives _ _ _ c.requires.le_count.0 _ (simp p at c.loop-i.invariant) (simp p at (sym c.is_above.ensures ∙ c.if-is_above.true))

pub loop-i-preserved : goal.loop-i-preserved
loop-i-preserved c = walk_goes_on _ _ _ c.requires.le_count.0 _ c.loop-i.invariant (omega arith) (sym c.is_above.ensures ∙ c.if-is_above.false)

pub returns : goal.returns
returns c =
    let a = c.args in
    let below = (index_says a.starts.now a.count a.p c.requires.le_count.0).below in
    let p = read c.ranges.p in
    let last : a.count - 1 ≡ c.loop-i.i = omega (arith, below) in
    last ∙ walk_ends _ _ _ c.requires.le_count.0 _ (simp p at c.loop-i.invariant) (omega arith)
