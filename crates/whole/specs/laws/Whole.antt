-- Whole numbers: what makes proofs on signed numbers short. A signed number of the code is a ℤ of `lib.IntN`, which `omega` does not read.
--     Needs          `search whole` at a need of a function on `i64`s: that a sum fits, that a test of the machine is the definition's test, and that the result is the definition's. It finds what it needs in `c`, so no path is written
--     Laws           `omega (order, sum a b, dif a b)` for a linear fact about whole numbers, with a `sum` or a `dif` for each sum and difference that the fact speaks of
--     By hand        `read`, `widened`, `narrowed` and `told`, for `rw` and `simp` where `search` does not do: what the machine reads back from a number's bits is the number
-- Assumes nothing.
use Rattle.std.specs.Prelude.{◌≡◌, refl, ◌≢◌, Bool, true, false, cond, ◌&&◌, ◌||◌, ℕ, zero, suc, ◌+◌, ◌-◌, ◌<◌, ◌≤◌, ◌^◌, T, ltb, ℤ, pos, negsuc, neg_ℤ, ◌+ℤ◌, ◌-ℤ◌, ◌≤ℤ◌, ◌<ℤ◌, if◌then◌else◌}
use Rattle.std.proofs.Common.{sym, ap, ap₂, subst, ◌∙◌, arith, ltb-true, ltb-false, leb-true, leb-false, eqb-true, lit<, lit≤}
use Rattle.std.proofs.lemmas.Bool.{false≢true, eqb-false}
use Rattle.std.proofs.Math.IntN.{sub_ℕ}
use Rattle.std.specs.Int.Signed.{mag, lt_z, le_z}
use Rattle.whole.specs.Whole.{eq_z, Within}
use Rattle.std.specs.Int.{Width, w32, w64}
use mir.Val.{SFits, hbits, to_z, of_z}
use Rattle.std.proofs.lemmas.Int.{to_z-of_z}

-- ---- tests

-- a proof by the two ways that a test can go
pub by_test : {P : Type 0} (t : Bool) → (t ≡ true → P) → (t ≡ false → P) → P
by_test true f g = f refl
by_test false f g = g refl

-- two tests are both true exactly where their conjunction is
pub both : (a b : Bool) → (a && b) ≡ true → (a ≡ true) × (b ≡ true)
both true b e = (refl, e)
both false b e = absurd (false≢true e)

-- of two tests neither of which is passed
pub neither : (a b : Bool) → (a || b) ≡ false → (a ≡ false) × (b ≡ false)
neither true b e = absurd (false≢true (sym e))
neither false b e = (refl, e)

pub both_of : {a b : Bool} → a ≡ true → b ≡ true → (a && b) ≡ true
both_of p q = ap₂ ◌&&◌ p q

-- ---- from ℤ to ℕ: z is `up z - dn z`, and one of the two is 0. Both compute at a literal

abbrev pub up : ℤ → ℕ
up (pos n) = n
up (negsuc n) = 0

abbrev pub dn : ℤ → ℕ
dn (pos n) = 0
dn (negsuc n) = suc n

up_sub : (a b : ℕ) → up (sub_ℕ a b) + b ≡ dn (sub_ℕ a b) + a
up_sub a b = go (ltb a b) refl
  where
    go : (t : Bool) → ltb a b ≡ t → up (cond t (negsuc (b - suc a)) (pos (a - b))) + b ≡ dn (cond t (negsuc (b - suc a)) (pos (a - b))) + a
    go true e = omega (arith, ltb-true)
    go false e = omega (arith, ltb-false)

-- a sum, a difference and a negation, for `omega`'s list
pub sum : (a b : ℤ) → up (a +ℤ b) + (dn a + dn b) ≡ dn (a +ℤ b) + (up a + up b)
sum (pos a) (pos b) = omega arith
sum (pos a) (negsuc b) = omega (arith, up_sub a (suc b))
sum (negsuc a) (pos b) = omega (arith, up_sub b (suc a))
sum (negsuc a) (negsuc b) = omega arith

pub neg : (a : ℤ) → (up (neg_ℤ a) ≡ dn a) × (dn (neg_ℤ a) ≡ up a)
neg (pos zero) = (refl, refl)
neg (pos (suc n)) = (refl, refl)
neg (negsuc n) = (refl, refl)

pub dif : (a b : ℤ) → up (a -ℤ b) + (dn a + up b) ≡ dn (a -ℤ b) + (up a + dn b)
dif a b = omega (arith, sum a (neg_ℤ b), neg b)

-- an equation of whole numbers: what it says, and how it is shown
pub eq_says : (a b : ℤ) → a ≡ b → up a + dn b ≡ up b + dn a
eq_says a b e = omega (arith, ap up e, ap dn e)

pub eq_by : (a b : ℤ) → up a + dn b ≡ up b + dn a → a ≡ b
eq_by (pos a) (pos b) e = ap pos (omega arith)
eq_by (pos a) (negsuc b) e = absurd (omega arith)
eq_by (negsuc a) (pos b) e = absurd (omega arith)
eq_by (negsuc a) (negsuc b) e = ap negsuc (omega arith)

-- of two numbers that differ: no rule, so it is listed with its arguments
pub ne_says : (a b : ℤ) → (a ≡ b → ⊥) → up a + dn b ≢ up b + dn a
ne_says a b h = λ e. h (eq_by a b e)

never : {X : Type 0} → false ≡ true → X
never e = absurd (subst T (sym e) tt)

-- a test's flag: what it says
pub lt_yes_says : (a b : ℤ) → lt_z a b ≡ true → up a + dn b < up b + dn a
lt_yes_says (pos a) (pos b) e = omega (arith, ltb-true)
lt_yes_says (pos a) (negsuc b) e = never e
lt_yes_says (negsuc a) (pos b) e = omega arith
lt_yes_says (negsuc a) (negsuc b) e = omega (arith, ltb-true)

pub lt_no_says : (a b : ℤ) → lt_z a b ≡ false → up b + dn a ≤ up a + dn b
lt_no_says (pos a) (pos b) e = omega (arith, ltb-false)
lt_no_says (pos a) (negsuc b) e = omega arith
lt_no_says (negsuc a) (pos b) e = never (sym e)
lt_no_says (negsuc a) (negsuc b) e = omega (arith, ltb-false)

pub le_yes_says : (a b : ℤ) → le_z a b ≡ true → up a + dn b ≤ up b + dn a
le_yes_says (pos a) (pos b) e = omega (arith, leb-true)
le_yes_says (pos a) (negsuc b) e = never e
le_yes_says (negsuc a) (pos b) e = omega arith
le_yes_says (negsuc a) (negsuc b) e = omega (arith, leb-true)

pub le_no_says : (a b : ℤ) → le_z a b ≡ false → up b + dn a < up a + dn b
le_no_says (pos a) (pos b) e = omega (arith, leb-false)
le_no_says (pos a) (negsuc b) e = omega arith
le_no_says (negsuc a) (pos b) e = never (sym e)
le_no_says (negsuc a) (negsuc b) e = omega (arith, leb-false)

pub eq_yes_says : (a b : ℤ) → eq_z a b ≡ true → up a + dn b ≡ up b + dn a
eq_yes_says (pos a) (pos b) e = omega (arith, eqb-true)
eq_yes_says (pos a) (negsuc b) e = never e
eq_yes_says (negsuc a) (pos b) e = never e
eq_yes_says (negsuc a) (negsuc b) e = omega (arith, eqb-true)

-- numbers that pass the test are one
pub eq_means : (a b : ℤ) → eq_z a b ≡ true → a ≡ b
eq_means a b e = eq_by a b (eq_yes_says a b e)

pub eq_no_says : (a b : ℤ) → eq_z a b ≡ false → up a + dn b ≢ up b + dn a
eq_no_says (pos a) (pos b) e = λ q. eqb-false a b e (omega arith)
eq_no_says (pos a) (negsuc b) e = omega arith
eq_no_says (negsuc a) (pos b) e = omega arith
eq_no_says (negsuc a) (negsuc b) e = λ q. eqb-false a b e (omega arith)

-- and how it is shown
pub eq_yes_by : (a b : ℤ) → up a + dn b ≡ up b + dn a → eq_z a b ≡ true
eq_yes_by a b h = by_test (eq_z a b) (λ e. e) (λ e. absurd (eq_no_says a b e h))

pub eq_no_by : (a b : ℤ) → up a + dn b ≢ up b + dn a → eq_z a b ≡ false
eq_no_by a b h = by_test (eq_z a b) (λ e. absurd (h (eq_yes_says a b e))) (λ e. e)

pub lt_yes_by : (a b : ℤ) → up a + dn b < up b + dn a → lt_z a b ≡ true
lt_yes_by a b h = by_test (lt_z a b) (λ e. e) (λ e. absurd (omega (arith, lt_no_says)))

pub lt_no_by : (a b : ℤ) → up b + dn a ≤ up a + dn b → lt_z a b ≡ false
lt_no_by a b h = by_test (lt_z a b) (λ e. absurd (omega (arith, lt_yes_says))) (λ e. e)

pub le_yes_by : (a b : ℤ) → up a + dn b ≤ up b + dn a → le_z a b ≡ true
le_yes_by a b h = by_test (le_z a b) (λ e. e) (λ e. absurd (omega (arith, le_no_says)))

pub le_no_by : (a b : ℤ) → up b + dn a < up a + dn b → le_z a b ≡ false
le_no_by a b h = by_test (le_z a b) (λ e. absurd (omega (arith, le_yes_says))) (λ e. e)

-- the orders of `lib.Signed`
passed : (t : Bool) → T t → t ≡ true
passed true h = refl
passed false h = absurd h

pub ≤_says : (a b : ℤ) → a ≤ℤ b → up a + dn b ≤ up b + dn a
≤_says a b h = le_yes_says a b (passed (le_z a b) h.le)

pub <_says : (a b : ℤ) → a <ℤ b → up a + dn b < up b + dn a
<_says a b h = lt_yes_says a b (passed (lt_z a b) h.lt)

pub ≤_by : (a b : ℤ) → up a + dn b ≤ up b + dn a → a ≤ℤ b
≤_by a b h = record { le = subst T (sym (le_yes_by a b h)) tt }

pub <_by : (a b : ℤ) → up a + dn b < up b + dn a → a <ℤ b
<_by a b h = record { lt = subst T (sym (lt_yes_by a b h)) tt }

-- `omega (order, ..)`: each equation, order and flag in reach is read, and a goal that is one is shown
pub ruleset order = (arith, eq_says, lt_yes_says, lt_no_says, le_yes_says, le_no_says, eq_yes_says, eq_no_says, ≤_says, <_says, eq_by, lt_yes_by, lt_no_by, le_yes_by, le_no_by, eq_yes_by, eq_no_by, ≤_by, <_by)

-- ---- how large a sum or a difference can be

mag_sub : (a b : ℕ) → mag (sub_ℕ a b) ≤ a + b
mag_sub a b = go (ltb a b)
  where
    go : (t : Bool) → mag (cond t (negsuc (b - suc a)) (pos (a - b))) ≤ a + b
    go true = omega arith
    go false = omega arith

mag_neg : (b : ℤ) → mag (neg_ℤ b) ≤ mag b + 1
mag_neg (pos zero) = omega arith
mag_neg (pos (suc n)) = omega arith
mag_neg (negsuc n) = omega arith

pub mag_sum : (a b : ℤ) → mag (a +ℤ b) ≤ mag a + mag b + 1
mag_sum (pos a) (pos b) = omega arith
mag_sum (pos a) (negsuc b) = omega (arith, mag_sub a (suc b))
mag_sum (negsuc a) (pos b) = omega (arith, mag_sub b (suc a))
mag_sum (negsuc a) (negsuc b) = omega arith

pub mag_dif : (a b : ℤ) → mag (a -ℤ b) ≤ mag a + mag b + 2
mag_dif a b = omega (arith, mag_sum a (neg_ℤ b), mag_neg b)

-- from a bound above and one below: z is in -m ..= m - 1
pub mag_by : (z : ℤ) (m : ℕ) → up z < m + dn z → dn z ≤ m + up z → mag z < m
mag_by (pos n) m h k = omega arith
mag_by (negsuc n) m h k = omega arith

-- ---- what the machine reads back from a number's bits is the number

pub read : {w : Width} {z : ℤ} → SFits w z → to_z w (of_z w z) ≡ z
read {w} {z} f = to_z-of_z w z f

pub fits_wider : {z : ℤ} → SFits w32 z → SFits w64 z
fits_wider h = omega (arith, h.sfits)

-- an `i32` carried as an `i64`, and a number that fits an `i32` cast to one
pub widened : {z : ℤ} → SFits w32 z → to_z w64 (of_z w64 (to_z w32 (of_z w32 z))) ≡ z
widened f = ap (λ (y : ℤ). to_z w64 (of_z w64 y)) (read f) ∙ read (fits_wider f)

pub narrowed : {z : ℤ} → SFits w32 z → to_z w32 (of_z w32 (to_z w64 (of_z w64 z))) ≡ z
narrowed f = ap (λ (y : ℤ). to_z w32 (of_z w32 y)) (read (fits_wider f)) ∙ read f

-- a struct's field or a slice's element, of which the bound alone is at hand: `told w64 r.base c.struct_told.given.0.1`
pub told : (w : Width) (z : ℤ) → mag z < 2 ^ hbits w → to_z w (of_z w z) ≡ z
told w z h = read (record { sfits = h })

-- ---- `search whole`

-- one lemma for each step, with the numbers written out: a step that `search` had to guess would cost it too much
pub i32_36 : {z : ℤ} → SFits w32 z → Within 36 z
i32_36 h = omega (arith, h.sfits)

pub i32_38 : {z : ℤ} → SFits w32 z → Within 38 z
i32_38 h = omega (arith, h.sfits)

pub i32_40 : {z : ℤ} → SFits w32 z → Within 40 z
i32_40 h = omega (arith, h.sfits)

pub widen_40 : {z : ℤ} → Within 40 z → Within 42 z
widen_40 h = omega (arith, h.within)

pub widen_42 : {z : ℤ} → Within 42 z → Within 44 z
widen_42 h = omega (arith, h.within)

pub sum_36 : {a b : ℤ} → Within 36 a → Within 36 b → Within 38 (a +ℤ b)
sum_36 {a} {b} h k = omega (arith, mag_sum a b, h.within, k.within)

pub dif_36 : {a b : ℤ} → Within 36 a → Within 36 b → Within 38 (a -ℤ b)
dif_36 {a} {b} h k = omega (arith, mag_dif a b, h.within, k.within)

pub sum_38 : {a b : ℤ} → Within 38 a → Within 38 b → Within 40 (a +ℤ b)
sum_38 {a} {b} h k = omega (arith, mag_sum a b, h.within, k.within)

pub dif_38 : {a b : ℤ} → Within 38 a → Within 38 b → Within 40 (a -ℤ b)
dif_38 {a} {b} h k = omega (arith, mag_dif a b, h.within, k.within)

pub sum_40 : {a b : ℤ} → Within 40 a → Within 40 b → Within 42 (a +ℤ b)
sum_40 {a} {b} h k = omega (arith, mag_sum a b, h.within, k.within)

pub dif_40 : {a b : ℤ} → Within 40 a → Within 40 b → Within 42 (a -ℤ b)
dif_40 {a} {b} h k = omega (arith, mag_dif a b, h.within, k.within)

pub sum_42 : {a b : ℤ} → Within 42 a → Within 42 b → Within 44 (a +ℤ b)
sum_42 {a} {b} h k = omega (arith, mag_sum a b, h.within, k.within)

pub dif_42 : {a b : ℤ} → Within 42 a → Within 42 b → Within 44 (a -ℤ b)
dif_42 {a} {b} h k = omega (arith, mag_dif a b, h.within, k.within)

pub sum_44 : {a b : ℤ} → Within 44 a → Within 44 b → SFits w64 (a +ℤ b)
sum_44 {a} {b} h k = omega (arith, mag_sum a b, h.within, k.within)

pub dif_44 : {a b : ℤ} → Within 44 a → Within 44 b → SFits w64 (a -ℤ b)
dif_44 {a} {b} h k = omega (arith, mag_dif a b, h.within, k.within)

pub fits_38 : {z : ℤ} → Within 38 z → SFits w64 z
fits_38 h = omega (arith, h.within)

pub fits_40 : {z : ℤ} → Within 40 z → SFits w64 z
fits_40 h = omega (arith, h.within)

pub fits_42 : {z : ℤ} → Within 42 z → SFits w64 z
fits_42 h = omega (arith, h.within)

pub fits_44 : {z : ℤ} → Within 44 z → SFits w64 z
fits_44 h = omega (arith, h.within)

-- the definition goes the way that the code went
pub then_is : (A : Type 0) (t : Bool) (r x y : A) → t ≡ true → r ≡ x → r ≡ (if t then x else y)
then_is A t r x y e q = q ∙ ap (λ (u : Bool). if u then x else y) (sym e)

pub else_is : (A : Type 0) (t : Bool) (r x y : A) → t ≡ false → r ≡ y → r ≡ (if t then x else y)
else_is A t r x y e q = q ∙ ap (λ (u : Bool). if u then x else y) (sym e)

-- the machine's test of two numbers that it reads back, as the test of the numbers
pub lt_read : (a b : ℤ) (t : Bool) → SFits w64 a → SFits w64 b → lt_z (to_z w64 (of_z w64 a)) (to_z w64 (of_z w64 b)) ≡ t → lt_z a b ≡ t
lt_read a b t f g h = simp (read f, read g) at h

pub le_read : (a b : ℤ) (t : Bool) → SFits w64 a → SFits w64 b → le_z (to_z w64 (of_z w64 a)) (to_z w64 (of_z w64 b)) ≡ t → le_z a b ≡ t
le_read a b t f g h = simp (read f, read g) at h

-- `==` compares the bits, and its branch tells of them
pub same_read : (a b : ℤ) → SFits w64 a → SFits w64 b → of_z w64 a ≡ of_z w64 b → eq_z a b ≡ true
same_read a b f g h = eq_yes_by a b (eq_says a b (sym (read f) ∙ ap (to_z w64) h ∙ read g))

pub other_read : (a b : ℤ) → (of_z w64 a ≡ of_z w64 b → ⊥) → eq_z a b ≡ false
other_read a b h = eq_no_by a b (λ q. h (ap (of_z w64) (eq_by a b q)))

-- the set is kept short on purpose: with all of `needs` in it `search` meets its bounds before it is through
pub ruleset whole = (tt, lit<, lit≤, fits_wider, fits_38, fits_40, fits_42, fits_44, i32_36, i32_38, i32_40, widen_40, widen_42, sum_36, dif_36, sum_38, dif_38, sum_40, dif_40, sum_42, dif_42, sum_44, dif_44, then_is, else_is, lt_read, le_read, same_read, other_read, read)
