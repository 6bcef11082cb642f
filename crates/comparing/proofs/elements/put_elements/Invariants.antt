-- After i turns the first i elements stand in the tables, which keep their lengths.
use Prim.Native.Nat.{◌≤◌}
use mathlib.Core.Path.{◌≡◌}
use lib.ListN.{length}
use Rattle.comparing.specs.Texts.{laid_out, counts_put, letters_put}
use Rattle.comparing.proofs.elements.put_elements.Given as goal

abbrev pub invariant-loop-i : goal.invariant-loop-i
invariant-loop-i l = (l.i ≤ laid_out l.elements) × (l.counts ≡ counts_put l.elements l.initial.counts l.i) × (l.letters ≡ letters_put l.elements l.initial.letters l.i) × (length l.counts ≡ length l.initial.counts) × (length l.letters ≡ length l.initial.letters)
