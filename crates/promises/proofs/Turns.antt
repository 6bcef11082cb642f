-- The turn of strand -1, the strict bounds and what has a strict answer, and n. numbers of places that are not negative. Assumes nothing.
use Prim.Native.Nat.{ℕ, zero, suc, ◌+◌, ◌-◌, ◌<◌}
use native.Mathlib.Omega.{arith}
use mathlib.Core.Bool.{Bool, true, false, cond, ◌&&◌, false≢true}
use mathlib.Core.Path.{◌≡◌, refl, ap}
use lib.Dec.{leb-zero}
use lib.IntN.{ℤ, pos, negsuc, neg_ℤ-neg_ℤ, ◌-ℤ◌}
use lib.Signed.{le_z, lt_z}
use borrow.Author.Tests.{lt-ltb}
use Rattle.refusals.specs.Outcome.{Answered}
use Rattle.whole.specs.laws.Whole.{by_test, both, neither, order, dif}
use Rattle.numbering.specs.Numbers.{n_of_place}
use Rattle.transcript.specs.Transcript.{Transcript, genome_length}
use Rattle.positions.specs.Positions.{Interval}
use Rattle.coding.specs.Coding.{beyond}
use Rattle.spots.specs.Mapping.{inside, turned, signed, place_of_g, whole_n, map_g_to_n}
use Rattle.mapper.specs.Chains.{map_g_to_c}
use Rattle.promises.specs.Demands.{BaseOf}

pub turn_turn : (forward : Bool) (len : ℕ) (z : ℤ) → turned forward len (turned forward len z) ≡ z
unfolding turned
turn_turn true len z = refl
turn_turn false len z = omega (order, dif (pos len) (pos 1), dif (pos len -ℤ pos 1) z, dif (pos len -ℤ pos 1) (pos len -ℤ pos 1 -ℤ z))

pub sign_sign : (forward : Bool) (o : ℤ) → signed forward (signed forward o) ≡ o
sign_sign true o = refl
sign_sign false o = neg_ℤ-neg_ℤ o

-- the turned place of one that is below the length
abbrev pub across : Bool → ℕ → ℕ → ℕ
across forward len q = cond forward q (len - 1 - q)

pub turned_within : (forward : Bool) (len q : ℕ) → q < len → turned forward len (pos q) ≡ pos (across forward len q)
unfolding turned
turned_within true len q h = refl
turned_within false len q h = omega (order, dif (pos len) (pos 1), dif (pos len -ℤ pos 1) (pos q))

pub across_within : (forward : Bool) (len q : ℕ) → q < len → across forward len q < len
across_within true len q h = h
across_within false len q h = omega arith

-- a place is inside in strict mode exactly where it is a natural number below the length
pub inside_within : (len p : ℕ) → p < len → inside true len (pos p) ≡ true
unfolding inside
inside_within len p h = rw (leb-zero p, lt-ltb p len h)

pub inside_means : (len : ℕ) (z : ℤ) → inside true len z ≡ true → (p : ℕ) × (z ≡ pos p) × (p < len)
unfolding inside
inside_means len (pos p) h = let (low, high) = both (le_z (pos 0) (pos p)) (lt_z (pos p) (pos len)) h in (p, refl, omega order)
inside_means len (negsuc p) h = absurd (false≢true h)

-- and a number is not beyond exactly where it is one more than such a number
pub beyond_means : (len : ℕ) (n : ℤ) → beyond true len n ≡ false → (r : ℕ) × (n ≡ pos (r + 1)) × (r < len)
unfolding beyond
beyond_means len n h = let (low, high) = neither (le_z n (pos 0)) (lt_z (pos len) n) h in go n low high
  where
    go : (n : ℤ) → le_z n (pos 0) ≡ false → lt_z (pos len) n ≡ false → (r : ℕ) × (n ≡ pos (r + 1)) × (r < len)
    go (pos zero) low high = absurd (omega order)
    go (pos (suc r)) low high = (r, ap pos (omega arith), omega order)
    go (negsuc r) low high = absurd (omega order)

pub n_of_place_lem : (p : ℕ) → n_of_place (pos p) ≡ pos (p + 1)
unfolding n_of_place
n_of_place_lem p = rw (leb-zero p)

pub place_of_base : (first p : ℕ) → place_of_g first (pos (p + first + 1)) ≡ pos p
place_of_base first p = omega (order, dif (pos (p + first + 1)) (pos 1), dif (pos (p + first + 1) -ℤ pos 1) (pos first))

-- a g. interval that has a strict c. answer has bases of the span as its ends: 14 refuses all else
pub answered_on_bases : (t : Transcript) (i : Interval ℤ) → Answered (map_g_to_c true t i) → BaseOf t i.from × BaseOf t i.to
unfolding map_g_to_c map_g_to_n whole_n
answered_on_bases t i =
    let span = genome_length t in
    let z = place_of_g t.first i.from in
    let w = place_of_g t.first i.to in
    by_test (inside true span z && inside true span w)
    (λ e ok. let (z_in, w_in) = both (inside true span z) (inside true span w) e in (base i.from (inside_means span z z_in), base i.to (inside_means span w w_in)))
    (λ e. rw e (λ bad. absurd bad))
  where
    base : (g : ℤ) → (p : ℕ) × (place_of_g t.first g ≡ pos p) × (p < genome_length t) → BaseOf t g
    base g (p, is, p_in) = (p, omega (order, dif g (pos 1), dif (g -ℤ pos 1) (pos t.first)), p_in)

pub same_either : {A : Type 0} (forward : Bool) (a : A) → cond forward a a ≡ a
same_either true a = refl
same_either false a = refl

-- what is so of both is so of the chosen one
pub either : {A : Type 0} (P : A → Type 0) (forward : Bool) (a b : A) → P a → P b → P (cond forward a b)
either P true a b h k = h
either P false a b h k = k
