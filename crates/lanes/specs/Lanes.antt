-- Lanes that bits are gathered in. Assumes nothing.
use Rattle.std.specs.Prelude.{ℕ, Bool, List, slice_index}
use Rattle.segments.specs.Tables.{all_below}
use Rattle.stepping.specs.Steps.{within}

-- each of 8 lanes has k bits at most
abbrev pub lanes_within : ℕ → List ℕ → Bool
lanes_within k lanes = all_below (λ j. within k (slice_index lanes j)) 8
