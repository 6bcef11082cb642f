-- A text that is stored in two parts. Assumes nothing.
use Rattle.std.specs.Prelude.{◌≡◌, List, [], ◌∷◌, ◌++◌, ℕ, suc, ◌+◌, length, set}
use Rattle.std.proofs.Common.{ap, ◌∙◌, add-zero, arith}
use Rattle.std.proofs.lemmas.List.Edits.{sets}

pub sets_append : (s t buf : List ℕ) (at : ℕ) → sets buf at (s ++ t) ≡ sets (sets buf at s) (at + length s) t
sets_append [] t buf at = rw add-zero
sets_append (a ∷ s) t buf at =
    sets_append s t (set buf at a) (suc at)
    ∙ ap (λ (k : ℕ). sets (sets (set buf at a) (suc at) s) k t) {x = suc at + length s} {y = at + suc (length s)} (omega arith)

-- a text and one byte more
pub sets_snoc : (text buf : List ℕ) (at d : ℕ) → sets buf at (text ++ d ∷ []) ≡ set (sets buf at text) (at + length text) d
sets_snoc text buf at d = sets_append text (d ∷ []) buf at
