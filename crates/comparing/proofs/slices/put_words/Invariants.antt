-- After i turns the first i words stand in the slice, which keeps its length.
use Prim.Native.Nat.{◌≤◌}
use mathlib.Core.Path.{◌≡◌}
use lib.ListN.{length}
use Rattle.comparing.specs.Bam.{words_put}
use Rattle.comparing.proofs.slices.put_words.Given as goal

abbrev pub invariant-loop-i : goal.invariant-loop-i
invariant-loop-i l = (l.i ≤ length l.initial.words) × (l.words ≡ words_put l.layout l.initial.words l.i) × (length l.words ≡ length l.initial.words)
