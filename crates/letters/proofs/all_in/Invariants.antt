-- After each turn the flag is what `all_below` says of the letters from the first on. Assumes nothing.
use Rattle.std.proofs.Common.{◌≡◌, get_or}
use Rattle.segments.specs.Tables.{all_below}
use Rattle.numbered.specs.Stretches.{from}
use Rattle.letters.proofs.all_in.Given as goal

abbrev pub invariant-loop-i : goal.invariant-loop-i
invariant-loop-i g l = l.ok ≡ all_below (from l.first (λ i. g.T.Test.passes (get_or l.letters i 0))) l.i
