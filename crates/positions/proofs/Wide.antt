-- The test for 17 that the code makes, as the test of the definitions. Assumes nothing.
use Rattle.std.specs.Prelude.{Option, Some, None, is_some, if◌then◌else◌}
use Rattle.std.specs.Option.{ok_or}
use Rattle.refusals.specs.declared.Refusal.TheVariants.{TooWide}
use Rattle.refusals.specs.Outcome.{Ok, Err}
use mathlib.Core.Path.{◌≡◌, refl, ap}
use mathlib.Core.Bool.{true}
use native.Mathlib.Omega.{arith}
use lib.IntN.{ℤ, pos, negsuc}
use mir.Syntax.{w32}
use mir.Val.{SFits}
use Rattle.whole.specs.Fits.{fit_of, fits}
use Rattle.whole.specs.laws.Fits.{number_is}
use Rattle.positions.specs.Answers.{if_fits}
use Rattle.positions.specs.laws.Fits.{fits_by}

-- a number of 32 bits passes
pub fits_yes : (z : ℤ) → SFits w32 z → fits z ≡ true
fits_yes (pos n) h = fits_by (pos n) (omega (arith, h.sfits)) (omega arith)
fits_yes (negsuc n) h = fits_by (negsuc n) (omega arith) (omega (arith, h.sfits))

-- what the code's test gives, or 17, is the number that was tested where it passes, and else 17
pub fit_or : (z : ℤ) → ok_or (fit_of z) TooWide ≡ if_fits fits z
unfolding fits
fit_or z = go (fit_of z) (λ x h. (number_is z x h).0)
  where
    go : (o : Option ℤ) → ((x : ℤ) → o ≡ Some x → x ≡ z) → ok_or o TooWide ≡ (if is_some o then Ok z else Err TooWide)
    go (Some x) h = ap (λ (y : ℤ). Ok y) (h x refl)
    go None h = refl
