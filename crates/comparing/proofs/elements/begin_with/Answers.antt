-- After each turn the flag says whether all elements passed stand in the tables.
use mathlib.Core.Path.{ap, ◌∙◌}
use lib.IntN.{ℤ, pos}
use lib.ListN.{get_or}
use mir.Syntax.{w32}
use Rattle.whole.specs.laws.Whole.{told}
use Rattle.segments.specs.laws.Gathering.{all_none, all_more, all_done}
use Rattle.comparing.specs.Texts.{is_element, begin_with}
use borrow.Author.Rules.{rules}
use Rattle.comparing.proofs.elements.begin_with.Goals as goal

pub loop-i-init : goal.loop-i-init
loop-i-init c = (search rules, all_none _)

pub loop-i-preserved : goal.loop-i-preserved
loop-i-preserved c =
    let a = c.args in
    let l = c.loop-i in
    let count = told w32 (get_or a.counts.now l.i (pos 0)) c.is_element-arg-1.given in
    (search rules, all_more _ _ l.invariant.1 (c.is_element-same.ensures ∙ ap (λ (z : ℤ). is_element a.elements.now l.i z (get_or a.letters.now l.i 0)) count))

pub returns : goal.returns
unfolding begin_with
returns c = all_done _ _ _ c.loop-i.invariant.1 c.loop-i.invariant.0 c.loop-i-test.false
