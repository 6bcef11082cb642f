-- After each turn the flag says whether all words passed are those of the layout.
use Prim.Native.Nat.{ℕ, ◌≤◌}
use mathlib.Core.Path.{◌≡◌}
use lib.Dec.{eqb}
use lib.ListN.{length, get_or}
use Rattle.segments.specs.Tables.{all_below}
use Rattle.comparing.specs.Bam.{word_or}
use Rattle.comparing.proofs.slices.holds_words.Given as goal

abbrev pub invariant-loop-i : goal.invariant-loop-i
invariant-loop-i l = (l.i ≤ length l.words) × (l.same ≡ all_below (λ (k : ℕ). eqb (get_or l.words k 0) (word_or l.layout k)) l.i)
