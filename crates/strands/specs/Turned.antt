-- An allele as the other strand reads it, and what a lent buffer then holds. Assumes nothing.
use Rattle.std.specs.Prelude.{ℕ, ◌-◌, List, [], ◌∷◌, ◌++◌, map, reverse, Bool, true, not, ◌&&◌, cond, eqb, ltb, length, drop}
use Prim.Native.Char.{Char, code}
use Rattle.refusals.specs.declared.Refusal.TheVariants.{NoRoom, NoBase}
use Rattle.refusals.specs.Outcome.{Outcome, Ok, Err, and_then}
use Rattle.sequences.specs.Alleles.{prefix_len, suffix_len, without_last, stretch}

-- ---- letters

-- two letters that stand opposite each other on the two strands
pub record Pair : Type 0 where
  pub one : ℕ
  pub other : ℕ

infix 80 ◌to◌
abbrev pub ◌to◌ : Char → Char → Pair
x to y = record { one = code x; other = code y }

-- the nucleotide list of IUPAC, in upper case and in lower case
abbrev pub pairs : List Pair
pairs =
    "A" to "T" ∷ "C" to "G" ∷ "R" to "Y" ∷ "K" to "M" ∷ "B" to "V" ∷ "D" to "H" ∷ "S" to "S" ∷ "W" to "W" ∷ "N" to "N"
    ∷ "a" to "t" ∷ "c" to "g" ∷ "r" to "y" ∷ "k" to "m" ∷ "b" to "v" ∷ "d" to "h" ∷ "s" to "s" ∷ "w" to "w" ∷ "n" to "n"
    ∷ []

-- the letter that stands opposite in a table of pairs, 0 where the table has none
unfoldable pub partner_in : List Pair → ℕ → ℕ
partner_in [] b = 0
partner_in (p ∷ ps) b = cond (eqb b p.one) p.other (cond (eqb b p.other) p.one (partner_in ps b))

unfoldable pub partner : ℕ → ℕ
partner b = partner_in pairs b

-- a letter of the list
unfoldable pub is_base : ℕ → Bool
is_base b = not (eqb (partner b) 0)

-- a base's partner. Any other byte stays, so that what is shown of alleles needs no bases: `turning` refuses it
unfoldable pub complement : ℕ → ℕ
complement b = cond (is_base b) (partner b) b

-- ---- alleles

unfoldable pub are_bases : List ℕ → Bool
are_bases [] = true
are_bases (b ∷ s) = is_base b && are_bases s

-- the reversed complement
unfoldable pub turned : List ℕ → List ℕ
turned s = reverse (map complement s)

-- an allele of the genome as a transcript reads it: turned where its strand is -1
abbrev pub on_strand : Bool → List ℕ → List ℕ
on_strand back s = cond back (turned s) s

-- ---- into a lent buffer

-- the allele so read: 34 where a letter is outside the list, on either strand
abbrev pub read_on : Bool → List ℕ → Outcome (List ℕ)
read_on back allele = cond (are_bases allele) (Ok (on_strand back allele)) (Err NoBase)

-- a text for a buffer of that many bytes: 20 where it is longer
abbrev pub fitting : ℕ → List ℕ → Outcome (List ℕ)
fitting room text = cond (ltb room (length text)) (Err NoRoom) (Ok text)

-- the turned allele for a buffer of that many bytes: 34, then 20
unfoldable pub turning : List ℕ → ℕ → Outcome (List ℕ)
turning allele room = and_then (read_on true allele) (fitting room)

-- the buffer afterwards: the turned allele is at the front and the rest stays, and where it is refused all stays
abbrev pub turned_into : List ℕ → Outcome (List ℕ) → List ℕ
turned_into buffer (Ok text) = text ++ drop (length text) buffer
turned_into buffer (Err k) = buffer

-- ---- the other order of trimming

-- the suffix is removed and then the prefix, which is what goes where the alleles are turned first: how many bytes go at the front
abbrev pub prefix_after : List ℕ → List ℕ → ℕ
prefix_after r a = prefix_len (without_last r (suffix_len r a)) (without_last a (suffix_len r a))

-- what remains of one of them
abbrev pub middle_back : List ℕ → List ℕ → List ℕ → List ℕ
middle_back r a s = stretch s (prefix_after r a) (length s - suffix_len r a)

-- what remains of the longer allele, the reference's when lengths tie
abbrev pub changed_back : List ℕ → List ℕ → List ℕ
changed_back r a = middle_back r a (cond (ltb (length r) (length a)) a r)
