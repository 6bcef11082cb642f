-- `spelling::text_size` meets its contract. The loop keeps that the whole size is the sum so far and the size of what is left. Assumes nothing.
use Rattle.std.proofs.Common.{◌≡◌, ◌*◌, ◌≤◌}
use Rattle.spelling.specs.Write.{elements_given, size_of}
use Rattle.spelling.proofs.Writing.{left_of, size_from}
use Rattle.spelling.proofs.text_size.Given as goal

abbrev pub invariant-loop-i : goal.invariant-loop-i
invariant-loop-i l =
    (l.i ≤ l.number) × (l.total ≤ 11 * l.i) × (size_of (elements_given l.counts l.letters l.number) ≡ size_from l.total (left_of l.counts l.letters l.number l.i))
