-- What is shown of the definitions of Lent. Assumes nothing.
use Rattle.std.specs.Prelude.{◌≡◌, List, ◌++◌, ℕ, ◌≤◌, length, drop}
use Rattle.std.proofs.Common.{ap, ◌∙◌, zero-add, arith}
use Rattle.std.proofs.lemmas.List.Edits.{sets, sets-eq}
use Rattle.cigar.specs.Lent.{at_front}

-- stores from the front on, of what fits
pub sets_front : {A : Type 0} (xs lent : List A) → length xs ≤ length lent → sets lent 0 xs ≡ at_front xs lent
sets_front xs lent h = sets-eq xs lent 0 (omega arith) ∙ ap (λ (k : ℕ). xs ++ drop k lent) (zero-add (length xs))
