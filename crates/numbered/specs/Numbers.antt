-- Exon numbers as the machine steps from one to the next: by differences that may wrap. Assumes nothing.
use Rattle.std.specs.Prelude.{ℕ, ◌+◌, ◌-◌, ◌^◌, Bool, cond, List, ◌==◌, nat_le, slice_index, if◌then◌else◌}
use Rattle.cigar.specs.Elements.{letter_n}

-- the difference of two numbers of 16 bits; one that would be negative wraps
unfoldable pub wrapped16 : ℕ → ℕ → ℕ
wrapped16 later earlier = if nat_le earlier later then later - earlier else later + 2 ^ 16 - earlier

-- after an N the number may step by one, after any other letter not at all
unfoldable pub most_after : ℕ → ℕ
most_after c = if c == letter_n then 1 else 0

-- from `low` to `high` it is no more than the letter c lets it be
unfoldable pub stepped : ℕ → ℕ → ℕ → Bool
stepped c low high = nat_le (wrapped16 high low) (most_after c)

-- after segment i, from its number or the next to the other: the two are told by 0 and 1
abbrev pub stepped_at : List ℕ → List ℕ → ℕ → ℕ → ℕ → Bool
stepped_at letters exons low high i = stepped (slice_index letters i) (slice_index exons (i + low)) (slice_index exons (i + high))

-- after the last segment, of the letter c and the number k, to what stands behind it
abbrev pub end_stepped : Bool → ℕ → ℕ → ℕ → Bool
end_stepped forward records c k = cond forward (stepped c k records) (stepped c 1 k)
