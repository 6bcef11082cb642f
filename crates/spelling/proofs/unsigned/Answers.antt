-- `spelling::unsigned` meets its contract: a number that is not negative is its own size. Assumes nothing.
use mathlib.Core.Path.{◌≡◌, ap}
use mathlib.Core.Bool.{true≢false, false}
use native.Mathlib.Omega.{arith}
use lib.Dec.{T}
use lib.IntN.{ℤ, pos, negsuc, nat_abs}
use lib.Signed.{lt_z, non_neg}
use mir.Syntax.{w32}
use mir.Val.{Fits, SFits}
use Rattle.whole.specs.laws.Whole.{read}
use Rattle.spelling.proofs.unsigned.Goals as goal

not_negative : (z : ℤ) → lt_z z (pos 0) ≡ false → SFits w32 z → T (non_neg z) × Fits w32 (nat_abs z)
not_negative (pos n) h f = (tt, omega (arith, f.sfits))
not_negative (negsuc n) h f = absurd (true≢false h)

pub overflow_cast-result : goal.overflow_cast-result
overflow_cast-result c = rw (read c.ranges.count) (not_negative c.args.count c.requires c.ranges.count)

pub returns : goal.returns
returns c = ap nat_abs (read c.ranges.count)
