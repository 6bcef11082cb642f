-- That the pass over the exon numbers decides. Where no step is above 1, a number is no further from the end that is 1 than there are segments between, so none comes near to wrapping, and the steps are what they seem. Assumes nothing.
use Rattle.std.specs.Prelude.{if◌then◌else◌}
use Rattle.std.proofs.Common.{◌≡◌, ℕ, zero, suc, ◌+◌, ◌-◌, ◌^◌, ◌<◌, ◌≤◌, Bool, true, false, cond, ◌&&◌, ◌||◌, eqb, ltb, leb, List, get_or, sym, ap, ◌∙◌, subst, add-one, arith, ltb-false, ltb-true, le-ltb, lt-ltb, eq-eqb, eqb-true, le-leb, leb-true}
use borrow.Author.Tests.{eqb-false}
use Rattle.whole.specs.laws.Whole.{by_test, both, both_of}
use Rattle.cigar.specs.Elements.{letter_n}
use Rattle.segments.specs.Tables.{all_below}
use Rattle.segments.specs.Exons.{first_number, number_at, goes_on, goes_on_at, numbers_hold}
use Rattle.segments.specs.laws.Meaning.{all_at, all_of}
use Rattle.numbered.specs.Numbers.{wrapped16, most_after, stepped, stepped_at, end_stepped}
use Rattle.numbered.specs.laws.All.{equal_where, eqb_sym}

-- ---- one step

-- a step that the machine lets pass from a number that does not come near to wrapping: none, or one after an N
record Step (c low high : ℕ) : Type 0 where
  most : high ≤ low + 1
  right : (eqb low high || (eqb c letter_n && eqb high (low + 1))) ≡ true

most_one : (c : ℕ) → most_after c ≤ 1
unfolding most_after
most_one c =
    by_test (eqb c letter_n)
    (λ e. rw e (omega arith))
    (λ e. rw e (omega arith))

only_n : (c k : ℕ) → k ≤ most_after c → 0 < k → eqb c letter_n ≡ true
unfolding most_after
only_n c k l some =
    by_test (eqb c letter_n)
    (λ e. e)
    (λ e. let m : k ≤ 0 = rw e at l in absurd (omega (arith, m, some)))

rise : (c low high : ℕ) → low ≤ high → high - low ≤ most_after c → Step c low high
rise c low high up l =
    let most = most_one c in
    record {
      most = omega (arith, l, most, up);
      right =
          by_test (eqb low high)
          (λ e. rw e)
          (λ e.
          let apart = eqb-false low high e in
          rw (e, only_n c (high - low) l (some apart), eq-eqb high (low + 1) (next apart most)));
    }
  where
    some : (low ≡ high → ⊥) → 0 < high - low
    some apart = omega (arith, apart, up)

    next : (low ≡ high → ⊥) → most_after c ≤ 1 → high ≡ low + 1
    next apart most = omega (arith, apart, up, l, most)

step_says : (c low high : ℕ) → low + 1 < 2 ^ 16 → stepped c low high ≡ true → Step c low high
unfolding stepped wrapped16
step_says c low high small h =
    let l : (if leb low high then high - low else high + 2 ^ 16 - low) ≤ most_after c = leb-true (if leb low high then high - low else high + 2 ^ 16 - low) (most_after c) h in
    by_test (leb low high)
    (λ t. rise c low high (leb-true low high t) (rw t at l))
    (λ t. let m : high + 2 ^ 16 - low ≤ most_after c = rw t at l in let most = most_one c in absurd (omega (arith, m, most, small)))

after_n : (c : ℕ) → eqb c letter_n ≡ true → most_after c ≡ 1
unfolding most_after
after_n c e = rw e

-- and such a step passes
step_by : (c low high : ℕ) → (eqb low high || (eqb c letter_n && eqb high (low + 1))) ≡ true → stepped c low high ≡ true
unfolding stepped wrapped16
step_by c low high h =
    by_test (eqb low high)
    (λ e. let same = eqb-true low high e in rw (le-leb low high (omega (arith, same))) (le-leb (high - low) (most_after c) (omega (arith, same))))
    (λ e.
    let (n, one) = both (eqb c letter_n) (eqb high (low + 1)) (rw e at h) in
    let next = eqb-true high (low + 1) one in
    let most = after_n c n in
    rw (le-leb low high (omega (arith, next))) (le-leb (high - low) (most_after c) (omega (arith, next, most))))

-- ---- the numbers of n segments, and what stands behind them

module _ (c number : ℕ → ℕ) (n : ℕ) (few : n ≤ 2048) where
  -- counted up from 1, none is above the number of its segment
  counted_up : number 0 ≡ 1 → ((i : ℕ) → i < n → stepped (c i) (number i) (number (i + 1)) ≡ true) → (i : ℕ) → i ≤ n → number i ≤ i + 1
  counted_up begins steps zero l = omega (arith, begins)
  counted_up begins steps (suc i) l =
      let before = counted_up begins steps i (omega arith) in
      let step = step_says (c i) (number i) (number (i + 1)) (omega (arith, before)) (steps i l) in
      let next : number (i + 1) ≤ i + 2 = omega (arith, before, step.most) in
      let at_next : number (suc i) ≤ i + 2 = rw add-one at next in
      omega (arith, at_next)

  -- counted down to 1, none is above the number of those after it
  counted_down : number n ≡ 1 → ((i : ℕ) → i < n → stepped (c i) (number (i + 1)) (number i) ≡ true) → (after i : ℕ) → i + after ≡ n → number i ≤ after + 1
  counted_down ends steps zero i is =
      let last : number i ≡ number n = ap number (omega (arith, is)) in
      omega (arith, last, ends)
  counted_down ends steps (suc after) i is =
      let next = counted_down ends steps after (i + 1) (omega (arith, is)) in
      let step = step_says (c i) (number (i + 1)) (number i) (omega (arith, next, is)) (steps i (omega (arith, is))) in
      omega (arith, next, step.most)

  -- so each goes on as it is to
  goes_up : number 0 ≡ 1 → ((i : ℕ) → i < n → stepped (c i) (number i) (number (i + 1)) ≡ true) → (i : ℕ) → i < n → goes_on true (c i) (number i) (number (i + 1)) ≡ true
  unfolding goes_on
  goes_up begins steps i l =
      let before = counted_up begins steps i (omega arith) in
      (step_says (c i) (number i) (number (i + 1)) (omega (arith, before)) (steps i l)).right

  goes_down : number n ≡ 1 → ((i : ℕ) → i < n → stepped (c i) (number (i + 1)) (number i) ≡ true) → (i : ℕ) → i < n → goes_on false (c i) (number i) (number (i + 1)) ≡ true
  unfolding goes_on
  goes_down ends steps i l =
      let next = counted_down ends steps (n - i - 1) (i + 1) (omega arith) in
      rw (eqb_sym (number i) (number (i + 1))) (step_says (c i) (number (i + 1)) (number i) (omega (arith, next)) (steps i l)).right

goes_by : (forward : Bool) (c k m : ℕ) → goes_on forward c k m ≡ true → stepped c (cond forward k m) (cond forward m k) ≡ true
unfolding goes_on
goes_by true c k m h = step_by c k m h
goes_by false c k m h = step_by c m k (rw (eqb_sym k m) at h)

-- ---- the definition, by the pass

module _ (letters exons : List ℕ) (n : ℕ) (some : 1 ≤ n) (few : n ≤ 2048) where
  abbrev c : ℕ → ℕ
  c i = get_or letters i 0

  abbrev e : ℕ → ℕ
  e i = get_or exons i 0

  abbrev number : ℕ → ℕ → ℕ
  number behind i = number_at exons n behind i

  own : (behind i : ℕ) → i < n → number behind i ≡ e i
  own behind i l = rw (lt-ltb i n l)

  add_zero : (i : ℕ) → i + 0 ≡ i
  add_zero i = omega arith

  at_end : (i : ℕ) → i < n → n - 1 ≤ i → n - 1 ≡ i
  at_end i l m = omega arith

  last : (behind i : ℕ) → i < n → n - 1 ≤ i → number behind (i + 1) ≡ behind
  last behind i l at_end = rw (le-ltb (i + 1) n (omega arith))

  -- each step as the pass takes it, on either strand
  module _ (records : ℕ) where
    up_joined : ((i : ℕ) → i < n - 1 → stepped_at letters exons 0 1 i ≡ true) → stepped (c (n - 1)) (e (n - 1)) records ≡ true → (i : ℕ) → i < n → stepped (c i) (number records i) (number records (i + 1)) ≡ true
    up_joined steps ends i l =
        by_test (ltb i (n - 1))
        (λ t. let m = ltb-true i (n - 1) t in
        rw (own records i l, own records (i + 1) (omega (arith, m))) (rw (add_zero i) at (steps i m)))
        (λ t. let m = ltb-false i (n - 1) t in
        rw (own records i l, last records i l m) (subst (λ (k : ℕ). stepped (c k) (e k) records ≡ true) (at_end i l m) ends))

    up_split : ((i : ℕ) → i < n → stepped (c i) (number records i) (number records (i + 1)) ≡ true) → ((i : ℕ) → i < n - 1 → stepped_at letters exons 0 1 i ≡ true) × (stepped (c (n - 1)) (e (n - 1)) records ≡ true)
    up_split steps = (
      λ i l. rw (add_zero i) (rw (own records i (omega arith), own records (i + 1) (omega arith)) at (steps i (omega arith))),
      rw (own records (n - 1) (omega arith), last records (n - 1) (omega arith) (omega arith)) at (steps (n - 1) (omega arith)),
    )

  down_joined : ((i : ℕ) → i < n - 1 → stepped_at letters exons 1 0 i ≡ true) → stepped (c (n - 1)) 1 (e (n - 1)) ≡ true → (i : ℕ) → i < n → stepped (c i) (number 1 (i + 1)) (number 1 i) ≡ true
  down_joined steps ends i l =
      by_test (ltb i (n - 1))
      (λ t. let m = ltb-true i (n - 1) t in
      rw (own 1 i l, own 1 (i + 1) (omega (arith, m))) (rw (add_zero i) at (steps i m)))
      (λ t. let m = ltb-false i (n - 1) t in
      rw (own 1 i l, last 1 i l m) (subst (λ (k : ℕ). stepped (c k) 1 (e k) ≡ true) (at_end i l m) ends))

  down_split : ((i : ℕ) → i < n → stepped (c i) (number 1 (i + 1)) (number 1 i) ≡ true) → ((i : ℕ) → i < n - 1 → stepped_at letters exons 1 0 i ≡ true) × (stepped (c (n - 1)) 1 (e (n - 1)) ≡ true)
  down_split steps = (
    λ i l. rw (add_zero i) (rw (own 1 i (omega arith), own 1 (i + 1) (omega arith)) at (steps i (omega arith))),
    rw (own 1 (n - 1) (omega arith), last 1 (n - 1) (omega arith) (omega arith)) at (steps (n - 1) (omega arith)),
  )

  -- on strand 1 the first number is 1, and each is counted up from it
  decided_up : (records : ℕ) → (all_below (stepped_at letters exons 0 1) (n - 1) && (eqb (e 0) 1 && stepped (c (n - 1)) (e (n - 1)) records)) ≡ numbers_hold true records letters exons n
  unfolding numbers_hold
  decided_up records = equal_where _ _ seen_holds holds_seen
    where
      seen_holds : (all_below (stepped_at letters exons 0 1) (n - 1) && (eqb (e 0) 1 && stepped (c (n - 1)) (e (n - 1)) records)) ≡ true
          → (eqb (number records 0) 1 && all_below (goes_on_at true letters (number records)) n) ≡ true
      seen_holds h =
          let (steps, rest) = both (all_below (stepped_at letters exons 0 1) (n - 1)) _ h in
          let (first, ends) = both (eqb (e 0) 1) _ rest in
          let begins : number records 0 ≡ 1 = own records 0 some ∙ eqb-true (e 0) 1 first in
          both_of (eq-eqb (number records 0) 1 begins)
          (all_of _ n (goes_up c (number records) n few begins (up_joined records (all_at _ (n - 1) steps) ends)))

      holds_seen : (eqb (number records 0) 1 && all_below (goes_on_at true letters (number records)) n) ≡ true
          → (all_below (stepped_at letters exons 0 1) (n - 1) && (eqb (e 0) 1 && stepped (c (n - 1)) (e (n - 1)) records)) ≡ true
      holds_seen h =
          let (first, goes) = both (eqb (number records 0) 1) _ h in
          let (steps, ends) = up_split records (λ i l. goes_by true (c i) (number records i) (number records (i + 1)) (all_at (goes_on_at true letters (number records)) n goes i l)) in
          both_of (all_of _ (n - 1) steps) (both_of (eq-eqb (e 0) 1 (sym (own records 0 some) ∙ eqb-true (number records 0) 1 first)) ends)

  -- on strand -1 what stands behind the last segment is 1, and each is counted down to it
  decided_down : (records : ℕ) → (all_below (stepped_at letters exons 1 0) (n - 1) && (eqb (e 0) records && stepped (c (n - 1)) 1 (e (n - 1)))) ≡ numbers_hold false records letters exons n
  unfolding numbers_hold
  decided_down records = equal_where _ _ seen_holds holds_seen
    where
      ends_with : number 1 n ≡ 1
      ends_with = rw (le-ltb n n (omega arith))

      seen_holds : (all_below (stepped_at letters exons 1 0) (n - 1) && (eqb (e 0) records && stepped (c (n - 1)) 1 (e (n - 1)))) ≡ true
          → (eqb (number 1 0) records && all_below (goes_on_at false letters (number 1)) n) ≡ true
      seen_holds h =
          let (steps, rest) = both (all_below (stepped_at letters exons 1 0) (n - 1)) _ h in
          let (first, ends) = both (eqb (e 0) records) _ rest in
          both_of (eq-eqb (number 1 0) records (own 1 0 some ∙ eqb-true (e 0) records first))
          (all_of _ n (goes_down c (number 1) n few ends_with (down_joined (all_at _ (n - 1) steps) ends)))

      holds_seen : (eqb (number 1 0) records && all_below (goes_on_at false letters (number 1)) n) ≡ true
          → (all_below (stepped_at letters exons 1 0) (n - 1) && (eqb (e 0) records && stepped (c (n - 1)) 1 (e (n - 1)))) ≡ true
      holds_seen h =
          let (first, goes) = both (eqb (number 1 0) records) _ h in
          let (steps, ends) = down_split (λ i l. goes_by false (c i) (number 1 i) (number 1 (i + 1)) (all_at (goes_on_at false letters (number 1)) n goes i l)) in
          both_of (all_of _ (n - 1) steps) (both_of (eq-eqb (e 0) records (sym (own 1 0 some) ∙ eqb-true (number 1 0) records first)) ends)

  pub numbers_decided : (forward : Bool) (records : ℕ)
      → (all_below (stepped_at letters exons (cond forward 0 1) (cond forward 1 0)) (n - 1) && (eqb (e 0) (first_number forward records) && end_stepped forward records (c (n - 1)) (e (n - 1)))) ≡ numbers_hold forward records letters exons n
  numbers_decided true records = decided_up records
  numbers_decided false records = decided_down records
