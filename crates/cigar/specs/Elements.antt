-- Elements of a CIGAR: the six letters, and how far an element goes on the two sides. Assumes nothing.
use Rattle.std.specs.Prelude.{ℕ, ◌+◌, List, [], ◌∷◌, eqb, Bool, ◌||◌, if◌then◌else◌}

-- one element: its count and its letter's byte
pub record Element : Type 0 where
  pub count : ℕ
  pub letter : ℕ

-- the bytes of the six letters
abbrev pub letter_equal : ℕ
letter_equal = 61

abbrev pub letter_d : ℕ
letter_d = 68

abbrev pub letter_i : ℕ
letter_i = 73

abbrev pub letter_m : ℕ
letter_m = 77

abbrev pub letter_n : ℕ
letter_n = 78

abbrev pub letter_x : ℕ
letter_x = 88

-- one of = D I M N X
unfoldable pub is_letter : ℕ → Bool
is_letter b = eqb b letter_equal || eqb b letter_d || eqb b letter_i || eqb b letter_m || eqb b letter_n || eqb b letter_x

-- what a letter does: `=`, `M`, `X` match, `I` inserts, `D` deletes, `N` skips
pub data Kind : Type 0 where
  matches : Kind
  inserts : Kind
  deletes : Kind
  skips : Kind

-- the kind of a letter's byte. The reader lets no letter through but the six
unfoldable pub kind_of : ℕ → Kind
kind_of c =
    if eqb c letter_n then skips
    else if eqb c letter_i then inserts
    else if eqb c letter_d then deletes
    else matches

abbrev pub kind : Element → Kind
kind x = kind_of x.letter

-- how far n of a kind go along the genome, and along the transcript
abbrev pub along_genome : Kind → ℕ → ℕ
along_genome matches n = n
along_genome inserts n = n
along_genome deletes n = 0
along_genome skips n = n

abbrev pub along_transcript : Kind → ℕ → ℕ
along_transcript matches n = n
along_transcript inserts n = 0
along_transcript deletes n = n
along_transcript skips n = 0

-- a side: how far an element goes on it
abbrev pub Side : Type 0
Side = Element → ℕ

unfoldable pub genome : Side
genome x = along_genome (kind x) x.count

unfoldable pub transcript : Side
transcript x = along_transcript (kind x) x.count

-- how far the elements go in all
unfoldable pub total : Side → List Element → ℕ
total side [] = 0
total side (x ∷ xs) = side x + total side xs
