-- After each turn as many letters as were passed stand at the front, and the rest stays.
use Rattle.std.specs.Prelude.{◌≡◌, length}
use lib.Seq.{paste}
use Rattle.strands.specs.Turned.{turned}
use Rattle.strands.proofs.turn.put_turned.Given as goal

abbrev pub invariant-loop-i : goal.invariant-loop-i
invariant-loop-i l = record {
  room : length l.buffer ≡ length l.initial.buffer;
  so_far : l.buffer ≡ paste l.initial.buffer 0 (turned l.allele) (length l.yielded);
}
