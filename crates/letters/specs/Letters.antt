-- The common letters. Assumes nothing.
use Rattle.std.specs.Prelude.{ℕ, Bool, ◌||◌, List, ◌==◌, slice_index}
use Rattle.cigar.specs.Elements.{letter_equal, letter_m, letter_n, letter_x}

-- the common letters, which advance both sides alike or, as N, the genome alone: = M N X
unfoldable pub is_common : ℕ → Bool
is_common c = c == letter_equal || c == letter_m || c == letter_n || c == letter_x

-- segment i's letter is one
abbrev pub common_at : List ℕ → ℕ → Bool
common_at letters i = is_common (slice_index letters i)
