-- Two texts that are stored one behind the other are stored as one. Assumes nothing.
use mathlib.Core.Path.{◌≡◌, sym, ◌∙◌}
use mathlib.Core.List.{List, ◌++◌}
use Prim.Native.Nat.{ℕ, ◌+◌}
use lib.ListN.{length}
use lib.Seq.{sets}
use Rattle.cigar.specs.laws.Stores.{sets_append}

pub then_stored : (s t before : List ℕ) (at : ℕ) {between after : List ℕ} → between ≡ sets before at s → after ≡ sets between (at + length s) t → after ≡ sets before at (s ++ t)
then_stored s t before at e f = f ∙ rw e (sym (sets_append s t before at))
