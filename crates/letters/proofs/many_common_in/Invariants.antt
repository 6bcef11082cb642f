-- After each turn the bits are one at most exactly where `all_below` says so of the letters from the first on. Assumes nothing.
use Rattle.std.proofs.Common.{◌≡◌}
use Rattle.segments.specs.Tables.{all_below}
use Rattle.numbered.specs.Stretches.{from}
use Rattle.stepping.specs.Steps.{within}
use Rattle.letters.specs.Letters.{common_at}
use Rattle.letters.proofs.many_common_in.Given as goal

abbrev pub invariant-loop-i : goal.invariant-loop-i
invariant-loop-i l = within 1 l.bits ≡ all_below (from l.first (common_at l.letters)) l.i
