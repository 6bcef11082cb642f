-- Where there is no such place, to set it changes nothing.
use mathlib.Core.Path.{sym}
use lib.Seq.{set_out}
use Rattle.whole.specs.laws.Whole.{read}
use Rattle.comparing.proofs.lent.put_signed.Goals as goal

pub returns-then-table-i : goal.returns-then-table-i
returns-then-table-i c = sym (set_out _ _ _ c.if-table-i.true)

pub bounds-table-i : goal.bounds-table-i
bounds-table-i c = c.if-table-i.false

pub returns : goal.returns
returns c = simp (read c.ranges.z)
