-- What the file of recorded answers holds, as host/compare/README.md lays it out: rows of eighteen words and of bytes. Assumes nothing.
use Rattle.std.specs.Prelude.{ℕ, ◌+◌, ◌-◌, ◌*◌, ◌/◌, ◌%◌, min, Bool, ◌&&◌, List, [], ltb, leb, eqb, ℤ, pos, length, take, get_or, if◌then◌else◌}
use Rattle.whole.specs.Whole.{eq_z}
use Rattle.sequences.specs.Alleles.{stretch}
use Rattle.fields.specs.Fields.{le32, signed32}
use Rattle.segments.specs.Tables.{all_below}

-- the words of a block, and its bytes
abbrev pub block_words : ℕ
block_words = 18

abbrev pub block_size : ℕ
block_size = 72

-- the words of an answer
abbrev pub answer_size : ℕ
answer_size = 10

-- so many bytes from the front, none where there are fewer
unfoldable pub first_of : List ℕ → ℕ → List ℕ
first_of s size = if ltb (length s) size then [] else take size s

-- what stands behind so many bytes
abbrev pub behind : List ℕ → ℕ → List ℕ
behind s p = stretch s (min p (length s)) (length s)

-- ---- a row's words

-- a row that has no whole block has only zeros
unfoldable pub word_at : List ℕ → ℕ → ℕ
word_at row i = if ltb (length row) block_size then 0 else le32 row (4 * i)

abbrev pub signed_at : List ℕ → ℕ → ℤ
signed_at row i = signed32 (word_at row i)

-- the first word holds the call, the flags and the origin, and the second says how many bytes of its own a row has
abbrev pub call_of : List ℕ → ℕ
call_of row = word_at row 0 % 256

abbrev pub flags_of : List ℕ → ℕ
flags_of row = word_at row 0 / 256 % 256

abbrev pub origin_of : List ℕ → ℕ
origin_of row = word_at row 0 / 65536 % 256

abbrev pub payload_of : List ℕ → List ℕ
payload_of row = first_of (behind row block_size) (word_at row 1)

-- the call's six numbers
abbrev pub recorded_size : List ℕ → ℕ → ℕ
recorded_size row i = word_at row (2 + i)

abbrev pub recorded_number : List ℕ → ℕ → ℤ
recorded_number row i = signed_at row (2 + i)

-- the answer's ten words
abbrev pub recorded_answer : List ℕ → ℕ → ℕ
recorded_answer row i = word_at row (8 + i)

-- one of them is this number
unfoldable pub is_word : List ℕ → ℕ → ℤ → Bool
is_word row i z = eq_z (signed_at row (8 + i)) z

-- they are these words
unfoldable pub expected : List ℕ → List ℤ → Bool
expected row words = all_below (λ (i : ℕ). is_word row i (get_or words i (pos 0))) answer_size

-- ---- the file

-- it begins with a block that makes no call and whose first number is the layout's version
abbrev pub has_head : List ℕ → Bool
has_head file = (leb block_size (length file) && eqb (call_of file) 0) && eqb (recorded_size file 0) 2

-- the bytes of a row with so many of its own
abbrev pub whole_size : ℕ → ℕ
whole_size own = block_size + block_size * ((own + block_size - 1) / block_size)

-- those of the row that comes next, 0 where it is cut off
unfoldable pub row_size : List ℕ → ℕ
row_size left = if ltb (length left) (whole_size (word_at left 1)) then 0 else whole_size (word_at left 1)
