-- After each turn the flag says whether all elements passed stand in the tables.
use Prim.Native.Nat.{ℕ, ◌≤◌}
use mathlib.Core.Path.{◌≡◌}
use lib.IntN.{pos}
use lib.ListN.{get_or}
use Rattle.segments.specs.Tables.{all_below}
use Rattle.comparing.specs.Texts.{laid_out, is_element}
use Rattle.comparing.proofs.elements.begin_with.Given as goal

abbrev pub invariant-loop-i : goal.invariant-loop-i
invariant-loop-i l = (l.i ≤ laid_out l.elements) × (l.same ≡ all_below (λ (k : ℕ). is_element l.elements k (get_or l.counts k (pos 0)) (get_or l.letters k 0)) l.i)
