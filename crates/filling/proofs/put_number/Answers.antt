-- `filling::put_number` meets its contract: the table with what is left stored stays the one promised: a turn stores one number (`run_more`), and at the end none is left (`run_none`). Assumes nothing.
use mathlib.Core.Path.{refl, sym, ◌∙◌}
use native.Mathlib.Omega.{arith}
use lib.ListN.{length-set}
use Rattle.filling.proofs.Runs.{run_more, run_none}
use Rattle.filling.proofs.put_number.Goals as goal

pub loop-i-init : goal.loop-i-init
loop-i-init c = (refl, refl)

pub loop-i-preserved : goal.loop-i-preserved
loop-i-preserved c =
    let l = c.loop-i in
    (length-set l.exons l.i _ ∙ l.invariant.0, l.invariant.1 ∙ run_more l.exons l.i _ _ (omega arith))

pub returns : goal.returns
returns c = let l = c.loop-i in sym (l.invariant.1 ∙ run_none l.exons l.i _ _ (omega arith))
