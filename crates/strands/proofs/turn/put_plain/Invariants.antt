-- After each turn as many letters as were passed stand at the front, and the rest stays.
use Rattle.std.specs.Prelude.{◌≡◌}
use lib.Seq.{paste}
use Rattle.strands.proofs.turn.put_plain.Given as goal

abbrev pub invariant-loop-i : goal.invariant-loop-i
invariant-loop-i l = l.buffer ≡ paste l.initial.buffer 0 l.allele l.i
