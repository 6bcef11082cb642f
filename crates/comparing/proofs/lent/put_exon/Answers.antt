-- Where there is no such place, to set it changes nothing.
use mathlib.Core.Path.{sym}
use lib.Seq.{set_out}
use Rattle.comparing.proofs.lent.put_exon.Goals as goal

pub returns-then-table-i : goal.returns-then-table-i
returns-then-table-i c = sym (set_out _ _ _ c.if-table-i.true)
