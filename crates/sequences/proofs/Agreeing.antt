-- The bytes that two lists have in common from the front are the pairs from the front whose two bytes are the same. Assumes nothing.
use Rattle.std.specs.Prelude.{◌≡◌, refl, ℕ, List, [], ◌∷◌, cond, eqb}
use Rattle.std.proofs.Common.{ap, arith}
use Rattle.std.specs.List.{zip, prefix_len as passing_len}
use Rattle.sequences.specs.Alleles.{prefix_len}

pub common_pairs : (s t : List ℕ) → passing_len (λ (p : ℕ × ℕ). eqb p.0 p.1) (zip s t) ≡ prefix_len s t
unfolding prefix_len
common_pairs [] t = refl
common_pairs (a ∷ s) [] = refl
common_pairs (a ∷ s) (b ∷ t) = ap (λ (n : ℕ). cond (eqb a b) n 0) (omega (arith, common_pairs s t))
