-- Where there is no such place, to set it changes nothing.
use Rattle.std.proofs.Common.{sym, le-ltb, lt-ltb}
use Rattle.std.proofs.Math.Seq.{set_out}
use Rattle.vectors.specs.Tally.{bumped}
use Rattle.vectors.proofs.tally.bump.Goals as goal

pub returns-then-size-i : goal.returns-then-size-i
unfolding bumped
returns-then-size-i c = rw (le-ltb _ _ c.if-size-i.true)

pub returns-then-tally-at : goal.returns-then-tally-at
unfolding bumped
returns-then-tally-at c = rw (lt-ltb _ _ c.if-size-i.false) (sym (set_out _ _ _ c.if-tally-at.true))

pub returns : goal.returns
unfolding bumped
returns c = rw (lt-ltb _ _ c.if-size-i.false, c.wrapping_add_u64-n.ensures.value)
