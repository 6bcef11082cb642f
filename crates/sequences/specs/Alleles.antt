-- The common prefix and suffix of two alleles, and the part that changed. An allele is any list of bytes.
use Rattle.std.specs.Prelude.{ℕ, suc, ◌-◌, List, [], ◌∷◌, reverse, Bool, cond, length, take, drop, eqb, ltb}
use Rattle.sequences.specs.declared.Part.{Part}

-- how many bytes two lists have in common from the front
unfoldable pub prefix_len : List ℕ → List ℕ → ℕ
prefix_len [] t = 0
prefix_len (a ∷ s) [] = 0
prefix_len (a ∷ s) (b ∷ t) = cond (eqb a b) (suc (prefix_len s t)) 0

-- and from the back
unfoldable pub suffix_len : List ℕ → List ℕ → ℕ
suffix_len s t = prefix_len (reverse s) (reverse t)

-- the last q bytes of a list, and what is left without them
abbrev pub last_of : List ℕ → ℕ → List ℕ
last_of s q = drop (length s - q) s

abbrev pub without_last : List ℕ → ℕ → List ℕ
without_last s q = take (length s - q) s

-- the bytes of a list from one place to before another
abbrev pub stretch : List ℕ → ℕ → ℕ → List ℕ
stretch s from to = take (to - from) (drop from s)

-- prefix then suffix are removed: how many bytes go at the front, and then at the back
abbrev pub bytes_before : List ℕ → List ℕ → ℕ
bytes_before r a = prefix_len r a

abbrev pub after : List ℕ → List ℕ → ℕ
after r a = suffix_len (drop (bytes_before r a) r) (drop (bytes_before r a) a)

-- what remains of one of them
abbrev pub middle : List ℕ → List ℕ → List ℕ → List ℕ
middle r a s = stretch s (bytes_before r a) (length s - after r a)

-- where it stands in the one allele or the other: in which, from where, and to before where
abbrev pub remains : List ℕ → List ℕ → Bool → Part
remains r a alternative = record { alternative = alternative; from = bytes_before r a; to = length (cond alternative a r) - after r a }

-- what remains of the longer allele, the reference's when lengths tie
abbrev pub changed_part : List ℕ → List ℕ → Part
changed_part r a = remains r a (ltb (length r) (length a))

-- the bytes of the part that changed
unfoldable pub changed_of : List ℕ → List ℕ → List ℕ
changed_of r a =
    let k = changed_part r a in
    stretch (cond k.alternative a r) k.from k.to
