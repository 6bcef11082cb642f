-- After each turn the flag says whether all counts passed are those of the layout.
use mathlib.Core.Path.{ap, ◌∙◌}
use mathlib.Core.Bool.{Bool, ◌&&◌}
use lib.Dec.{leb}
use lib.IntN.{pos}
use lib.ListN.{length, get_or}
use mir.Syntax.{w32}
use Rattle.whole.specs.laws.Whole.{told}
use Rattle.segments.specs.laws.Gathering.{all_none, all_more, all_done}
use Rattle.comparing.specs.Texts.{laid_out}
use Rattle.comparing.specs.Bam.{is_count, holds_counts}
use borrow.Author.Rules.{rules}
use Rattle.comparing.proofs.slices.holds_counts.Goals as goal

pub loop-i-init : goal.loop-i-init
loop-i-init c = (search rules, all_none _)

pub loop-i-preserved : goal.loop-i-preserved
loop-i-preserved c =
    let a = c.args in
    let l = c.loop-i in
    let count = told w32 (get_or a.counts.now l.i (pos 0)) c.is_count-arg-1.given in
    (search rules, all_more _ _ l.invariant.1 (c.is_count-same.ensures ∙ ap (is_count a.elements.now l.i) count))

pub returns : goal.returns
unfolding holds_counts
returns c =
    let a = c.args in
    ap (λ (t : Bool). t && leb (laid_out a.elements.now) (length a.counts.now)) (all_done _ _ _ c.loop-i.invariant.1 c.loop-i.invariant.0 c.loop-i-test.false)
