-- A bound that is not negative: what stands in its four bytes. Assumes nothing.
use mathlib.Core.Path.{◌≡◌}
use mathlib.Core.Bool.{false, true≢false}
use Prim.Native.Nat.{ℕ}
use lib.Dec.{ltb}
use lib.IntN.{pos, nat_abs}
use lib.Signed.{lt_z}
use Rattle.fields.specs.Fields.{signed32}
use Rattle.whole.specs.laws.Whole.{by_test}

pub bits_whole : (n : ℕ) → lt_z (signed32 n) (pos 0) ≡ false → n ≡ nat_abs (signed32 n)
bits_whole n h = by_test (ltb n 2147483648) (λ e. rw e) (λ e. absurd (true≢false (rw e at h)))
