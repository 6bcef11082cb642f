-- What a halving keeps: the segment sought is one of those from `low` to `high`. Each end before `low` is at p or below it, as ends rise, and the end of `high` is above p where it is not the last. A round by quarters is two halvings: where the second half begins past p, its own second half does too. Assumes nothing.
use Prim.Native.Nat.{ℕ, ◌+◌, ◌-◌, ◌/◌, ◌≤◌, ◌<◌}
use native.Mathlib.Omega.{arith}
use mathlib.Core.Bool.{true, false, cond}
use mathlib.Core.List.{List}
use mathlib.Core.Path.{◌≡◌, refl}
use lib.Dec.{leb}
use lib.IntN.{ℤ, pos}
use lib.ListN.{get_or}
use lib.Signed.{lt_z}
use borrow.Author.Tests.{leb-true, leb-false}
use Rattle.whole.specs.laws.Whole.{order, by_test}
use Rattle.finding.specs.Finding.{Rising, ends_above, index_of}
use Rattle.finding.specs.laws.Index.{index_is}
use Rattle.finding.specs.laws.Rising.{rising}

-- what is no lower is above p too
above_still : (p : ℤ) (d e : ℕ) → d ≤ e → lt_z p (pos d) ≡ true → lt_z p (pos e) ≡ true
above_still p d e h above = omega (order, h, above)

pub record Bracket (entries : List ℕ) (n : ℕ) (p : ℤ) (low high : ℕ) : Type 0 where
  pub passed : (k : ℕ) → k < low → ends_above entries p k ≡ false
  pub here : high + 1 < n → ends_above entries p high ≡ true

module _ {entries : List ℕ} {n : ℕ} {p : ℤ} {low high : ℕ} (b : Bracket entries n p low high) where
  -- the middle's end is above p
  pub bracket_down : {middle : ℕ} → ends_above entries p middle ≡ true → Bracket entries n p low middle
  bracket_down above = record { passed = b.passed; here = λ l. above }

  -- it is, and so is the end of any segment from there on
  bracket_wide : {middle top : ℕ} → Rising entries n → middle ≤ top → ends_above entries p middle ≡ true → Bracket entries n p low top
  bracket_wide {middle} {top} up ≤top above = record { passed = b.passed; here = λ l. above_still p _ _ (rising entries n up (middle + 1) (top + 1) (omega arith) (omega arith)) above }

  -- it is not, and so is no end before it
  pub bracket_up : {middle : ℕ} → Rising entries n → middle < n → ends_above entries p middle ≡ false → Bracket entries n p (middle + 1) high
  bracket_up {middle} up <n end = record { passed = λ k l. no_higher (rising entries n up (k + 1) (middle + 1) (omega arith) (omega arith)); here = b.here }
    where
      no_higher : {e : ℕ} → e ≤ get_or entries (middle + 1) 0 → lt_z p (pos e) ≡ false
      no_higher h = omega (order, h, end)

  -- one is left
  pub bracket_done : high ≡ low → low < n → low ≡ index_of entries n p
  bracket_done e <n = index_is entries n p (record { below = <n; passed = b.passed; here = λ l. rw e at (b.here (omega arith)) })

-- ---- so many segments are left from `low` on

-- the next number, if what begins there is not past p, or else the number at hand
abbrev later_of : List ℕ → ℤ → ℕ → ℕ → ℕ
later_of entries p low next = cond (lt_z p (pos (get_or entries next 0))) low next

-- the last of three numbers where what begins is not past p, or else the number at hand
abbrev farthest_of : List ℕ → ℤ → ℕ → ℕ → ℕ → ℕ → ℕ
farthest_of entries p low first second third = later_of entries p (later_of entries p (later_of entries p low first) second) third

-- with so many from either of two numbers on within the table, so are those from the later of them on
later_in : (entries : List ℕ) (p : ℤ) (low next many n : ℕ) → low + many ≤ n → next + many ≤ n → later_of entries p low next + many ≤ n
later_in entries p low next many n h k = by_test (lt_z p (pos (get_or entries next 0))) (λ e. rw e h) (λ e. rw e k)

-- and those from the farthest of four on
pub farthest_in : (entries : List ℕ) (p : ℤ) (low first second third many n : ℕ) → low + many ≤ n → first + many ≤ n → second + many ≤ n → third + many ≤ n → farthest_of entries p low first second third + many ≤ n
farthest_in entries p low first second third many n l a b c =
    later_in entries p (later_of entries p (later_of entries p low first) second) third many n (later_in entries p (later_of entries p low first) second many n (later_in entries p low first many n l a) b) c

-- the farthest is what two halvings choose
farthest_is : (entries : List ℕ) (p : ℤ) (n : ℕ) → Rising entries n → (low half quarter : ℕ) → low + half + quarter ≤ n → let next = later_of entries p low (low + half) in farthest_of entries p low (low + quarter) (low + half) (low + half + quarter) ≡ later_of entries p next (next + quarter)
farthest_is entries p n up low half quarter l =
    by_test (lt_z p (pos (get_or entries (low + half) 0)))
    (λ above. let behind = above_still p _ _ (rising entries n up (low + half) (low + half + quarter) (omega arith) l) above in rw (above, behind) refl)
    (λ passed. rw passed refl)

module _ {entries : List ℕ} {n : ℕ} {p : ℤ} (up : Rising entries n) where
  module _ {low left : ℕ} (b : Bracket entries n p low (low + left - 1)) (some : 1 ≤ left) (in_table : low + left ≤ n) where
    half_in : 2 ≤ left → let next = later_of entries p low (low + left / 2) in Bracket entries n p next (next + (left - left / 2) - 1)
    half_in two =
        let half = left / 2 in
        let middle = low + half - 1 in
        let e : middle + 1 ≡ low + half = omega arith in
        by_test (lt_z p (pos (get_or entries (low + half) 0)))
        (λ above. rw above (bracket_wide b {middle = middle} up (omega arith) (rw e above)))
        (λ passed. let top : low + half + (left - half) - 1 ≡ low + left - 1 = omega arith in rw (passed, top) (rw e at (bracket_up b {middle = middle} up (omega arith) (rw e passed))))

    none_in : left / 2 ≡ 0 → let next = later_of entries p low (low + left / 2) in Bracket entries n p next (next + (left - left / 2) - 1)
    none_in none =
        let all : left - 0 ≡ left = omega arith in
        let here : low + 0 ≡ low = omega arith in
        rw (none, all, here) (by_test (lt_z p (pos (get_or entries low 0))) (λ e. rw e b) (λ e. rw e b))

    -- one halving more
    half_more : let next = later_of entries p low (low + left / 2) in Bracket entries n p next (next + (left - left / 2) - 1)
    half_more = by_test (leb 2 left) (λ two. half_in (leb-true 2 left two)) (λ one. none_in (omega (arith, leb-false 2 left one)))

  -- one round by quarters more
  pub quarter_more : {low left : ℕ} (first second third : ℕ) → Bracket entries n p low (low + left - 1) → 1 ≤ left → low + left ≤ n →
      let half = left / 2 in let quarter = (left - half) / 2 in first ≡ low + quarter → second ≡ low + half → third ≡ low + half + quarter →
      let next = farthest_of entries p low first second third in Bracket entries n p next (next + (left - half - quarter) - 1)
  quarter_more {low} {left} first second third b some l e1 e2 e3 =
      let half = left / 2 in
      let rest = left - half in
      rw (e1, e2, e3, farthest_is entries p n up low half (rest / 2) (omega arith))
      (half_more {left = rest} (half_more b some l) (omega arith) (later_in entries p low (low + half) rest n (omega arith) (omega arith)))

-- a place before all counts to the first segment
pub before_all : (entries : List ℕ) (n : ℕ) (p : ℤ) → 1 ≤ n → lt_z p (pos 0) ≡ true → 0 ≡ index_of entries n p
before_all entries n p some before = index_is entries n p (record { below = some; passed = λ k l. absurd (omega arith); here = λ l. omega (order, before) })

-- and one that is not before the end to the last
pub behind_all : (entries : List ℕ) (n : ℕ) (p : ℤ) → 1 ≤ n → Rising entries n → lt_z p (pos (get_or entries n 0)) ≡ false → n - 1 ≡ index_of entries n p
behind_all entries n p some up behind = index_is entries n p (record { below = omega arith; passed = λ k l. no_higher (rising entries n up (k + 1) n (omega arith) (omega arith)); here = λ l. absurd (omega arith) })
  where
    no_higher : {e : ℕ} → e ≤ get_or entries n 0 → lt_z p (pos e) ≡ false
    no_higher h = omega (order, h, behind)
