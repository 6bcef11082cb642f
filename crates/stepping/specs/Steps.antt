-- A segment's steps as the machine takes them: differences that may wrap, and how many bits they have. Assumes nothing.
use Rattle.std.specs.Prelude.{ℕ, ◌+◌, ◌-◌, ◌^◌, Bool, cond, ◌&&◌, ◌||◌, ◌==◌, nat_le, nat_lt, slice_index, if◌then◌else◌}
use Rattle.cigar.specs.Elements.{letter_d, letter_i, letter_n}
use Rattle.segments.specs.Tables.{Tables}

-- the difference of two entries; one that would be negative wraps
unfoldable pub wrapped : ℕ → ℕ → ℕ
wrapped later earlier = if nat_le earlier later then later - earlier else later + 2 ^ 32 - earlier

-- a number of k bits at most
unfoldable pub within : ℕ → ℕ → Bool
within k n = nat_lt n (2 ^ k)

-- ---- one segment of the letter c, which goes from g₀ to g₁ and from t₀ to t₁

-- what the letter lets the transcript see of the genome's step is what it lets the genome see of the transcript's
unfoldable pub same : ℕ → ℕ → ℕ → ℕ → ℕ → Bool
same c g₀ g₁ t₀ t₁ = cond (c == letter_i || c == letter_n) 0 (wrapped g₁ g₀) == cond (c == letter_d) 0 (wrapped t₁ t₀)

-- neither step has more than k bits
unfoldable pub steps_within : ℕ → ℕ → ℕ → ℕ → ℕ → Bool
steps_within k g₀ g₁ t₀ t₁ = within k (wrapped g₁ g₀) && within k (wrapped t₁ t₀)

-- the same tests for common letters, = M N X: the transcript's step is the genome's or 0, so how many bits it has is not looked at
unfoldable pub common_same : ℕ → ℕ → ℕ → ℕ → ℕ → Bool
common_same c g₀ g₁ t₀ t₁ = cond (c == letter_n) 0 (wrapped g₁ g₀) == wrapped t₁ t₀

unfoldable pub common_within : ℕ → ℕ → ℕ → Bool
common_within k g₀ g₁ = within k (wrapped g₁ g₀)

-- ---- segment i of tables

abbrev pub at : (ℕ → ℕ → ℕ → ℕ → ℕ → Bool) → Tables → ℕ → Bool
at test a i = test (slice_index a.letters i) (slice_index a.genome i) (slice_index a.genome (i + 1)) (slice_index a.transcript i) (slice_index a.transcript (i + 1))

abbrev pub same_at : Tables → ℕ → Bool
same_at a i = at same a i

abbrev pub within_at : ℕ → Tables → ℕ → Bool
within_at k a i = at (λ c g₀ g₁ t₀ t₁. steps_within k g₀ g₁ t₀ t₁) a i

abbrev pub common_same_at : Tables → ℕ → Bool
common_same_at a i = at common_same a i

abbrev pub common_within_at : ℕ → Tables → ℕ → Bool
common_within_at k a i = at (λ c g₀ g₁ t₀ t₁. common_within k g₀ g₁) a i
