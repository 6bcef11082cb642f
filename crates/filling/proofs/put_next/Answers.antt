-- `filling::put_next` meets its contract: the gap's number is stored, and `put_number` stores the record's own behind it (`run_after`). Assumes nothing.
use mathlib.Core.Path.{sym, ap, ◌∙◌}
use Prim.Native.Nat.{◌+◌, ◌-◌}
use native.Mathlib.Omega.{arith}
use lib.ListN.{length, replicate, length-set}
use lib.Seq.{length-sets}
use Rattle.transcript.specs.Building.{numbered_by}
use Rattle.filling.proofs.Runs.{run_after}
use Rattle.filling.proofs.put_next.Goals as goal

pub put_number-requires : goal.put_number-requires
put_number-requires c = (simp length-set (omega arith), simp length-set (omega arith))

pub shape_of-exons : goal.shape_of-exons
shape_of-exons c = ap length c.put_number.ensures ∙ simp (length-sets, length-set)

pub returns : goal.returns
returns c =
    let a = c.args in
    let own = replicate (a.to - (a.from + 1)) (numbered_by a.forward (a.before + 1) (a.after - 1)) in
    let told = rw (c.number_of-gap.ensures, c.number_of-own.ensures) at c.put_number.ensures in
    told ∙ sym (run_after a.exons.now own a.from (numbered_by a.forward a.before a.after))
