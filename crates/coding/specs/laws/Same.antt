-- What the test for one c. position tells. Assumes nothing.
use Rattle.std.specs.Prelude.{Bool, true, false, ◌&&◌, ◌≡◌, refl, ℤ}
use Rattle.std.specs.Bool.{beq}
use Rattle.std.proofs.lemmas.Bool.{false≢true}
use Rattle.std.proofs.Common.{ap₂}
use Rattle.whole.specs.Whole.{eq_z}
use Rattle.whole.specs.laws.Whole.{both, eq_means}
use Rattle.numbering.specs.declared.CNumber.{CNumber}
use Rattle.positions.specs.Positions.{CAsked}
use Rattle.coding.specs.Coding.{same_c}

star_says : (a b : Bool) → beq a b ≡ true → a ≡ b
star_says true true e = refl
star_says true false e = absurd (false≢true e)
star_says false true e = absurd (false≢true e)
star_says false false e = refl

pub same_says : (a b : CAsked) → same_c a b ≡ true → a ≡ b
unfolding same_c
same_says a b e =
    let (base, offset) = both (eq_z a.base.0 b.base.0 && beq a.base.1 b.base.1) (eq_z a.offset b.offset) e in
    let (number, star) = both (eq_z a.base.0 b.base.0) (beq a.base.1 b.base.1) base in
    ap₂ (λ (c : CNumber) (o : ℤ). record { base = c; offset = o })
    (ap₂ (λ (n : ℤ) (s : Bool). record { 0 = n; 1 = s }) (eq_means a.base.0 b.base.0 number) (star_says a.base.1 b.base.1 star))
    (eq_means a.offset b.offset offset)
