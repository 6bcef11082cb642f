-- After each turn as many bytes as were passed are stored, and the rest stays.
use Rattle.std.specs.Prelude.{◌≡◌}
use lib.Seq.{paste}
use Rattle.card.proofs.put_bytes.Given as goal

abbrev pub invariant-loop-i : goal.invariant-loop-i
invariant-loop-i l = l.buffer ≡ paste l.initial.buffer l.at l.bytes l.i
