-- The layout of a log, named once: its mark, its version, and where its entries begin. The code's names for them are those of src/.
use Rattle.std.specs.Prelude.{ℕ, List, [], ◌∷◌}

-- `QLG`
abbrev pub mark : List ℕ
mark = 81 ∷ 76 ∷ 71 ∷ []

abbrev pub version : ℕ
version = 1

-- the version, 16 bits
abbrev pub version_at : ℕ
version_at = 3

-- the entries, one after the other
abbrev pub entries_at : ℕ
entries_at = 5
