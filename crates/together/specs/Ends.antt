-- Where the tables of segments begin and end, and how many bits the segments' ends have. Assumes nothing.
use Rattle.std.specs.Prelude.{ℕ, ◌+◌, ◌^◌, ◌<◌, Bool, ◌&&◌, List, eqb, get_or}
use Rattle.stepping.specs.Steps.{within}

-- neither end of segment i has more than k bits
abbrev pub ends_within_at : ℕ → List ℕ → List ℕ → ℕ → Bool
ends_within_at k genome transcript i = within k (get_or genome (i + 1) 0) && within k (get_or transcript (i + 1) 0)

-- ---- the tables of n segments

-- both begin at 0
unfoldable pub begin : List ℕ → List ℕ → Bool
begin genome transcript = eqb (get_or genome 0 0) 0 && eqb (get_or transcript 0 0) 0

-- neither last entry has the highest bit of 32
pub record LowEnds (genome transcript : List ℕ) (n : ℕ) : Type 0 where
  pub genome_low : get_or genome n 0 < 2 ^ 31
  pub transcript_low : get_or transcript n 0 < 2 ^ 31
