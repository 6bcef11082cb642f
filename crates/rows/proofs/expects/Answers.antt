-- After each turn the flag says whether all words passed are those that the row expects.
use mathlib.Core.Path.{ap, ◌∙◌}
use lib.IntN.{pos}
use lib.ListN.{get_or}
use mir.Syntax.{w64}
use Rattle.whole.specs.laws.Whole.{told}
use Rattle.segments.specs.laws.Gathering.{all_none, all_more, all_done}
use Rattle.rows.specs.Rows.{is_word, expected}
use native.Mathlib.Omega.{arith}
use Rattle.rows.proofs.expects.Goals as goal

pub loop-i-init : goal.loop-i-init
loop-i-init c = all_none _

pub loop-i-preserved : goal.loop-i-preserved
loop-i-preserved c =
    let a = c.args in
    let l = c.loop-i in
    let word = told w64 (get_or a.words l.i (pos 0)) c.is_word-arg-1.given in
    all_more _ _ l.invariant (c.is_word-same.ensures ∙ ap (is_word a.row.now l.i) word)

pub returns : goal.returns
unfolding expected
returns c = all_done _ _ _ c.loop-i.invariant (omega arith) (omega arith)
