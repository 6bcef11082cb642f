-- After each turn the flag says whether all counts passed are those of the layout.
use Prim.Native.Nat.{ℕ, ◌≤◌}
use mathlib.Core.Path.{◌≡◌}
use lib.IntN.{pos}
use lib.ListN.{length, get_or}
use Rattle.segments.specs.Tables.{all_below}
use Rattle.comparing.specs.Bam.{is_count}
use Rattle.comparing.proofs.slices.holds_counts.Given as goal

abbrev pub invariant-loop-i : goal.invariant-loop-i
invariant-loop-i l = (l.i ≤ length l.counts) × (l.same ≡ all_below (λ (k : ℕ). is_count l.elements k (get_or l.counts k (pos 0))) l.i)
