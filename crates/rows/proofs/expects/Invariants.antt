-- After each turn the flag says whether all words passed are those that the row expects.
use Prim.Native.Nat.{ℕ}
use mathlib.Core.Path.{◌≡◌}
use lib.IntN.{pos}
use lib.ListN.{get_or}
use Rattle.segments.specs.Tables.{all_below}
use Rattle.rows.specs.Rows.{is_word}
use Rattle.rows.proofs.expects.Given as goal

abbrev pub invariant-loop-i : goal.invariant-loop-i
invariant-loop-i l = l.same ≡ all_below (λ (k : ℕ). is_word l.row k (get_or l.words k (pos 0))) l.i
