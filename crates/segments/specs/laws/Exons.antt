-- The numbers that are read from a table: what stands at each, and behind the last; that those that were put in are read; and that numbers which hold lie in 1 to the record count. Assumes nothing.
use Rattle.std.specs.Prelude.{ℕ, zero, suc, ◌+◌, ◌≤◌, ◌<◌, Bool, true, false, cond, List, [], ◌∷◌, ◌≡◌, refl, eqb, ltb, get_or, length}
use Rattle.std.proofs.Common.{le_refl, arith, ap, eqb-true, ltb-true, ltb-false, le-ltb}
use Rattle.whole.specs.laws.Whole.{by_test, both}
use Rattle.cigar.specs.Elements.{letter_n}
use Rattle.segments.specs.Tables.{all_below, padded}
use Rattle.segments.specs.laws.Meaning.{all_at}
use Rattle.finding.specs.laws.Rising.{onward}
use Rattle.segments.specs.laws.Made.{padded_at}
use Rattle.segments.specs.Exons.{first_number, last_number, number_at, numbers_from, read_numbers, goes_on, goes_on_at, numbers_hold, IsExon}

-- from the segment i on
from_within : (exons : List ℕ) (behind i m k : ℕ) → k < m → get_or (numbers_from exons i m) k behind ≡ get_or exons (i + k) 0
unfolding numbers_from
from_within exons behind i zero k h = absurd (omega arith)
from_within exons behind i (suc m) zero h = let e : i + 0 ≡ i = omega arith in rw e
from_within exons behind i (suc m) (suc k) h = let e : i + suc k ≡ i + 1 + k = omega arith in rw e (from_within exons behind (i + 1) m k (omega arith))

from_behind : (exons : List ℕ) (behind i m k : ℕ) → m ≤ k → get_or (numbers_from exons i m) k behind ≡ behind
unfolding numbers_from
from_behind exons behind i zero k h = refl
from_behind exons behind i (suc m) zero h = absurd (omega arith)
from_behind exons behind i (suc m) (suc k) h = from_behind exons behind (i + 1) m k (omega arith)

pub read_number : (exons : List ℕ) (n behind i : ℕ) → get_or (read_numbers exons n) i behind ≡ number_at exons n behind i
read_number exons n behind i =
    by_test (ltb i n)
    (λ e. let z : 0 + i ≡ i = omega arith in rw e (rw z at (from_within exons behind 0 n i (ltb-true i n e))))
    (λ e. rw e (from_behind exons behind 0 n i (ltb-false i n e)))

-- ---- numbers that were put in a table of so many places

same_from : (exons ns : List ℕ) (i : ℕ) → ((k : ℕ) → k < length ns → get_or exons (i + k) 0 ≡ get_or ns k 0) → numbers_from exons i (length ns) ≡ ns
unfolding numbers_from
same_from exons [] i at = refl
same_from exons (x ∷ xs) i at =
    let e : i + 0 ≡ i = omega arith in
    rw (rw e at (at 0 (omega arith)))
    (ap (λ (l : List ℕ). x ∷ l) (same_from exons xs (i + 1) (λ k h. let s : i + 1 + k ≡ i + suc k = omega arith in rw s (at (suc k) (omega arith)))))

pub read_padded : (size : ℕ) (ns : List ℕ) → read_numbers (padded size ns) (length ns) ≡ ns
read_padded size ns = same_from (padded size ns) ns 0 (λ k h. let e : 0 + k ≡ k = omega arith in rw e (padded_at size ns k))

-- ---- numbers that hold never turn back: they lie between the first and what stands behind the last

-- from k to m is not back in the direction of the strand
abbrev Onward : Bool → ℕ → ℕ → Type 0
Onward forward k m = cond forward k m ≤ cond forward m k

goes_onward : (forward : Bool) (c k m : ℕ) → goes_on forward c k m ≡ true → Onward forward k m
unfolding goes_on
goes_onward forward c k m h =
    by_test (eqb k m)
    (λ e. rw (eqb-true k m e) (le_refl (cond forward m m)))
    (λ e. next forward (eqb-true (cond forward m k) (cond forward k m + 1) (both (eqb c letter_n) _ (rw e at h)).1))
  where
    next : (f : Bool) → cond f m k ≡ cond f k m + 1 → Onward f k m
    next true e = omega arith
    next false e = omega arith

module _ (forward : Bool) (records : ℕ) (letters exons : List ℕ) (n : ℕ) (h : numbers_hold forward records letters exons n ≡ true) where
  abbrev number : ℕ → ℕ
  number = number_at exons n (last_number forward records)

  parts : (number 0 ≡ first_number forward records) × (all_below (goes_on_at forward letters number) n ≡ true)
  unfolding numbers_hold
  parts = let (first, goes) = both (eqb (number 0) (first_number forward records)) _ h in (eqb-true (number 0) (first_number forward records) first, goes)

  along : (i j : ℕ) → i ≤ j → j ≤ n → Onward forward (number i) (number j)
  along =
      onward (Onward forward) (λ k. le_refl (cond forward k k)) (through forward) number n
      (λ i l. goes_onward forward (get_or letters i 0) (number i) (number (i + 1)) (all_at (goes_on_at forward letters number) n parts.1 i l))
    where
      through : (f : Bool) (a b c : ℕ) → Onward f a b → Onward f b c → Onward f a c
      through true a b c p q = omega arith
      through false a b c p q = omega arith

  behind_is : (i : ℕ) → n ≤ i → number i ≡ last_number forward records
  behind_is i l = rw (le-ltb i n l)

  up_to_last : (i : ℕ) → i ≤ n → IsExon records (number i)
  up_to_last i l = between forward (rw parts.0 at (along 0 i (omega arith) l)) (rw (behind_is n (le_refl n)) at (along i n l (le_refl n)))
    where
      between : (f : Bool) → Onward f (first_number f records) (number i) → Onward f (number i) (last_number f records) → IsExon records (number i)
      between true low high = record { above = low; below = high }
      between false high low = record { above = low; below = high }

  pub number_is_exon : (i : ℕ) → IsExon records (number i)
  number_is_exon i =
      by_test (ltb i n)
      (λ e. up_to_last i (omega (arith, ltb-true i n e)))
      (λ e. rw (behind_is i (ltb-false i n e), ← behind_is n (le_refl n)) (up_to_last n (le_refl n)))
