-- Elements are stored in two tables one by one: what is left to store makes the tables that are promised. Assumes nothing.
use Rattle.std.proofs.Common.{sym, add-one}
use Rattle.std.specs.Prelude.{List, [], ◌∷◌, ℕ, ◌+◌, ℤ, pos, set}
use Rattle.std.proofs.lemmas.List.Edits.{sets}
use Rattle.cigar.specs.Elements.{Element}
use Rattle.cigar.specs.Read.{counts_of, letters_of, Filled}

-- the first of the elements that are left
pub fill_one : {c : List ℤ} {l : List ℕ} {c₁ : List ℤ} {l₁ : List ℕ} {n : ℕ} {x : Element} {es : List Element} → Filled c l c₁ l₁ n (x ∷ es)
    → Filled (set c n (pos x.count)) (set l n x.letter) c₁ l₁ (n + 1) es
fill_one {n = n} f = record { counts_is = rw (add-one n) f.counts_is; letters_is = rw (add-one n) f.letters_is }

-- nothing is left: the tables are what they were to become
pub fill_none : {c₀ : List ℤ} {l₀ : List ℕ} {c : List ℤ} {l : List ℕ} {n m : ℕ} {es : List Element}
    → Filled c l (sets c₀ n (counts_of es)) (sets l₀ n (letters_of es)) m [] → Filled c₀ l₀ c l n es
fill_none f = record { counts_is = sym f.counts_is; letters_is = sym f.letters_is }
