-- Tests that are one, a flag that a loop gathers from a number on, and two stretches that overlap. Assumes nothing.
use Rattle.std.specs.Prelude.{◌≡◌, ℕ, ◌+◌, ◌≤◌, Bool, true, false, ◌&&◌, ◌||◌, ◌==◌, nat_lt, refl}
use Rattle.std.proofs.Common.{arith, sym, ap, ◌∙◌, lt-ltb, le-ltb, ltb-true, ltb-false, eqb-true, eq-eqb, ne_eqb}
use Rattle.std.proofs.lemmas.Bool.{false≢true, eqb-false}
use Rattle.whole.specs.laws.Whole.{by_test, both, both_of}
use Rattle.segments.specs.Tables.{all_below}
use Rattle.segments.specs.laws.Meaning.{all_at, all_of}
use Rattle.segments.specs.laws.Gathering.{all_more}
use Rattle.numbered.specs.Stretches.{from}

-- two tests are one where each follows from the other
pub equal_where : (a b : Bool) → (a ≡ true → b ≡ true) → (b ≡ true → a ≡ true) → a ≡ b
equal_where true b h k = sym (h refl)
equal_where false true h k = k refl
equal_where false false h k = refl

-- the order of two numbers does not matter to the test that they are equal
pub eqb_sym : (a b : ℕ) → (a == b) ≡ (b == a)
eqb_sym a b =
    by_test (a == b)
    (λ e. rw (e, eq-eqb b a (sym (eqb-true a b e))))
    (λ e. rw (e, ne_eqb b a (λ q. eqb-false a b e (sym q))))

-- ---- from a number on

-- before the first turn those passed are none
pub from_none : (f : ℕ → Bool) (first : ℕ) → true ≡ all_below (from first f) first
from_none f first = sym (all_of (from first f) first (λ i l. rw (lt-ltb i first l)))

-- a turn at i, which is not before the first
pub from_more : (f : ℕ → Bool) (first i : ℕ) {flag found : Bool} → first ≤ i → flag ≡ all_below (from first f) i → found ≡ f i → (flag && found) ≡ all_below (from first f) (i + 1)
from_more f first i l flag≡ found≡ = all_more (from first f) i flag≡ (found≡ ∙ rw (le-ltb i first l))

-- from 0 on nothing is passed
pub from_start : (f : ℕ → Bool) (n : ℕ) → all_below (from 0 f) n ≡ all_below f n
from_start f n =
    equal_where _ _
    (λ h. all_of f n (λ i l. rw (le-ltb i 0 (omega arith)) at (all_at (from 0 f) n h i l)))
    (λ h. all_of (from 0 f) n (λ i l. rw (le-ltb i 0 (omega arith)) (all_at f n h i l)))

-- two stretches that overlap or meet make one
pub stretched : (f : ℕ → Bool) (mid first n : ℕ) → first ≤ mid → mid ≤ n → (all_below (from 0 f) mid && all_below (from first f) n) ≡ all_below f n
stretched f mid first n meet within = equal_where _ _ joined split
  where
    either : (b : Bool) → (b || true) ≡ true
    either true = refl
    either false = refl

    joined : (all_below (from 0 f) mid && all_below (from first f) n) ≡ true → all_below f n ≡ true
    joined h =
        let (front, back) = both (all_below (from 0 f) mid) (all_below (from first f) n) h in
        all_of f n (λ i l.
        by_test (nat_lt i mid)
        (λ t. rw (le-ltb i 0 (omega arith)) at (all_at (from 0 f) mid front i (ltb-true i mid t)))
        (λ t. rw (le-ltb i first (omega (arith, ltb-false i mid t))) at (all_at (from first f) n back i l)))

    split : all_below f n ≡ true → (all_below (from 0 f) mid && all_below (from first f) n) ≡ true
    split h = both_of (all_of (from 0 f) mid (λ i l. rw (all_at f n h i (omega arith)) (either (nat_lt i 0)))) (all_of (from first f) n (λ i l. rw (all_at f n h i l) (either (nat_lt i first))))

-- a flag of the first numbers, joined with what a stretch that overlaps or meets them shows
pub on_stretch : (f : ℕ → Bool) (mid first n : ℕ) {flag all : Bool} → first ≤ mid → mid ≤ n → flag ≡ all_below f mid → all ≡ (flag && all_below (from first f) n) → all ≡ all_below f n
on_stretch f mid first n meet within flag≡ all≡ = all≡ ∙ ap (λ (b : Bool). b && all_below (from first f) n) (flag≡ ∙ sym (from_start f mid)) ∙ stretched f mid first n meet within

-- where the later one passes, the earlier decides; where it does not, nothing more need be seen
module _ (f : ℕ → Bool) (mid first n : ℕ) (meet : first ≤ mid) (within : mid ≤ n) where
  pub later_passes : all_below (from first f) n ≡ true → all_below (from 0 f) mid ≡ all_below f n
  later_passes e =
      equal_where _ _
      (λ h. sym (stretched f mid first n meet within) ∙ both_of h e)
      (λ h. (both (all_below (from 0 f) mid) (all_below (from first f) n) (stretched f mid first n meet within ∙ h)).0)

  pub later_fails : all_below (from first f) n ≡ false → false ≡ all_below f n
  later_fails e =
      equal_where false _
      (λ h. absurd (false≢true h))
      (λ h. sym e ∙ (both (all_below (from 0 f) mid) (all_below (from first f) n) (stretched f mid first n meet within ∙ h)).1)
