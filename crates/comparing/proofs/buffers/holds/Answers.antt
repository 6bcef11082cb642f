-- After each turn the flag says whether all bytes passed are those of the text.
use mathlib.Core.Path.{ap}
use mathlib.Core.Bool.{Bool, ◌&&◌}
use lib.Dec.{eqb, leb}
use lib.ListN.{length}
use Rattle.segments.specs.laws.Gathering.{all_none, all_more, all_done}
use Rattle.comparing.specs.Texts.{holds_text}
use borrow.Author.Rules.{rules}
use Rattle.comparing.proofs.buffers.holds.Goals as goal

pub loop-i-init : goal.loop-i-init
loop-i-init c = (search rules, all_none _)

pub loop-i-preserved : goal.loop-i-preserved
loop-i-preserved c = (search rules, all_more _ _ c.loop-i.invariant.1 (ap (eqb _) c.byte_at.ensures))

pub returns : goal.returns
unfolding holds_text
returns c =
    let a = c.args in
    ap (λ (t : Bool). t && leb (length a.text.now) (length a.buffer.now)) (all_done _ _ _ c.loop-i.invariant.1 c.loop-i.invariant.0 c.loop-i-test.false)
