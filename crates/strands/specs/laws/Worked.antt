-- Worked examples, computed. Assumes nothing.
use Rattle.std.specs.Prelude.{◌≡◌, refl, List, [], ◌∷◌, map, ℕ}
use Prim.Native.Char.{Char, code}
use Rattle.refusals.specs.declared.Refusal.TheVariants.{NoRoom, NoBase}
use Rattle.refusals.specs.Outcome.{Ok, Err}
use Rattle.sequences.specs.Alleles.{prefix_len, suffix_len, middle, changed_of}
use Rattle.strands.specs.Turned.{partner_in, partner, is_base, complement, are_bases, turned, turning}

abbrev bytes : List Char → List ℕ
bytes s = map code s

abbrev cac : List ℕ
cac = bytes ("C" ∷ "A" ∷ "C" ∷ [])

abbrev c : List ℕ
c = bytes ("C" ∷ [])

-- where the order of trimming matters: `CAC` and `C` are `GTG` and `G` on the other strand, where the prefix goes first and leaves `TG` and nothing; trimmed before they are turned they leave `GT` and nothing
pub trimmed : (turned cac ≡ bytes ("G" ∷ "T" ∷ "G" ∷ [])) × (middle (turned cac) (turned c) (turned cac) ≡ bytes ("T" ∷ "G" ∷ [])) × (middle (turned cac) (turned c) (turned c) ≡ [])
    × (turned (middle cac c cac) ≡ bytes ("G" ∷ "T" ∷ [])) × (turned (middle cac c c) ≡ [])
unfolding turned complement is_base partner partner_in prefix_len suffix_len
trimmed = (refl, refl, refl, refl, refl)

pub trimmed_changed : (changed_of (turned cac) (turned c) ≡ bytes ("T" ∷ "G" ∷ [])) × (turned (changed_of cac c) ≡ bytes ("G" ∷ "T" ∷ []))
unfolding changed_of turned complement is_base partner partner_in prefix_len suffix_len
trimmed_changed = (refl, refl)

-- one letter of each pair, in the order of the list, in upper case and in lower case
pub listed : (turned (bytes ("A" ∷ "C" ∷ "R" ∷ "K" ∷ "B" ∷ "D" ∷ "S" ∷ "W" ∷ "N" ∷ [])) ≡ bytes ("N" ∷ "W" ∷ "S" ∷ "H" ∷ "V" ∷ "M" ∷ "Y" ∷ "G" ∷ "T" ∷ []))
    × (turned (bytes ("a" ∷ "c" ∷ "r" ∷ "k" ∷ "b" ∷ "d" ∷ "s" ∷ "w" ∷ "n" ∷ [])) ≡ bytes ("n" ∷ "w" ∷ "s" ∷ "h" ∷ "v" ∷ "m" ∷ "y" ∷ "g" ∷ "t" ∷ []))
unfolding turned complement is_base partner partner_in
listed = (refl, refl)

-- U is outside the list, before room is asked for; a buffer as long as the allele has room
pub outcomes : (turning (bytes ("A" ∷ "U" ∷ [])) 1 ≡ Err NoBase) × (turning (bytes ("u" ∷ [])) 1 ≡ Err NoBase) × (turning cac 2 ≡ Err NoRoom) × (turning cac 3 ≡ Ok (turned cac))
unfolding turning are_bases turned complement is_base partner partner_in
outcomes = (refl, refl, refl, refl)
