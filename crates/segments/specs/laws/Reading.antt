-- Tables that hold together have the entries and the letters of the elements that are read from them, so that both map a place alike. Assumes nothing.
use Prim.Native.Nat.{ℕ, zero, suc, ◌+◌, ◌≤◌, ◌<◌, max}
use native.Mathlib.Omega.{arith}
use Rattle.std.specs.Prelude.{Bool, true, List, ◌≡◌, refl, ℤ, get_or, length}
use Rattle.std.proofs.Common.{sym, ap, ◌∙◌, eqb-true}
use Rattle.cigar.specs.Elements.{Side, Kind, kind_of, along_genome, along_transcript, genome, transcript, total}
use Rattle.cigar.specs.Elements.Kind.{matches, inserts, deletes, skips}
use Rattle.cigar.specs.Read.{letters_of}
use Rattle.segments.specs.Tables.{Tables, steps_of, Holds, element_at, elements_from, read, entries_from, entries_of}
use Rattle.segments.specs.Places.{End, map_by_tables, map_place}
use Rattle.finding.specs.Finding.{index_of}
use Rattle.segments.specs.laws.Made.{entry_total}
use Rattle.finding.specs.laws.Index.{index_says, same_index}

-- two tables have the same entries at each number below n
abbrev Alike : ℕ → List ℕ → List ℕ → Type 0
Alike n a b = (k : ℕ) → k < n → get_or a k 0 ≡ get_or b k 0

-- tables of n segments that have the same entries map a place alike: they find one segment, and it stands in both
map_alike : (a b l a' b' l' : List ℕ) (n : ℕ) → 0 < n → Alike (n + 1) a a' → Alike (n + 1) b b' → Alike n l l'
    → (p : ℤ) (e : End) (forward : Bool) → map_by_tables a b l n p e forward ≡ map_by_tables a' b' l' n p e forward
unfolding map_by_tables
map_alike a b l a' b' l' n some from to letters p e forward =
    let i = index_of a n p in
    let below = (index_says a n p some).below in
    rw (← same_index a a' n p some (λ k h. from k (omega arith)), from i (omega arith), from (i + 1) (omega arith), to i (omega arith), letters i below)

-- ---- what is read

-- as many elements are read as there are segments
read_some : (a : Tables) (i m : ℕ) → length (elements_from a i m) ≡ m
unfolding elements_from
read_some a i zero = refl
read_some a i (suc m) = ap suc (read_some a (i + 1) m)

pub read_length : (a : Tables) (n : ℕ) → length (read a n) ≡ n
read_length a n = read_some a 0 n

letters_from : (a : Tables) (i m k : ℕ) → k < m → get_or (letters_of (elements_from a i m)) k 0 ≡ get_or a.letters (i + k) 0
unfolding elements_from
letters_from a i zero k h = absurd (omega arith)
letters_from a i (suc m) zero h = let e : i + 0 ≡ i = omega arith in rw e
letters_from a i (suc m) (suc k) h = let e : i + suc k ≡ i + 1 + k = omega arith in rw e (letters_from a (i + 1) m k (omega arith))

-- a table of starts goes on by what the elements go
module _ (a : Tables) (n : ℕ) (side : Side) (starts : List ℕ) (steps : (i : ℕ) → i < n → get_or starts i 0 + side (element_at a i) ≡ get_or starts (i + 1) 0) where
  entries_from_lem : (i m k : ℕ) → i + m ≤ n → k ≤ m → get_or (entries_from side (get_or starts i 0) (elements_from a i m)) k 0 ≡ get_or starts (i + k) 0
  unfolding elements_from entries_from
  entries_from_lem i zero zero h l = let e : i + 0 ≡ i = omega arith in rw e
  entries_from_lem i zero (suc k) h l = absurd (omega arith)
  entries_from_lem i (suc m) zero h l = let e : i + 0 ≡ i = omega arith in rw e
  entries_from_lem i (suc m) (suc k) h l =
      let e : i + suc k ≡ i + 1 + k = omega arith in
      rw (e, steps i (omega arith)) (entries_from_lem (i + 1) m k (omega arith) (omega arith))

  entries_are : get_or starts 0 0 ≡ 0 → Alike (n + 1) starts (entries_of side (read a n))
  entries_are first k h = let e : 0 + k ≡ k = omega arith in sym (rw (e, first) at (entries_from_lem 0 n k (omega arith) (omega arith)))

-- steps that are a kind's are those of the larger of the two
steps_say : (k : Kind) (dg dt : ℕ) → steps_of k dg dt ≡ true → (along_genome k (max dg dt) ≡ dg) × (along_transcript k (max dg dt) ≡ dt)
steps_say matches dg dt h = (omega (arith, eqb-true dg dt h), omega (arith, eqb-true dg dt h))
steps_say inserts dg dt h = (omega (arith, eqb-true dt 0 h), omega (arith, eqb-true dt 0 h))
steps_say deletes dg dt h = (omega (arith, eqb-true dg 0 h), omega (arith, eqb-true dg 0 h))
steps_say skips dg dt h = (omega (arith, eqb-true dt 0 h), omega (arith, eqb-true dt 0 h))

-- ---- tables that hold together

module _ (a : Tables) (n : ℕ) (holds : Holds a n) where
  -- a segment's element goes as far as its entries say
  both_step : (i : ℕ) → i < n → (get_or a.genome i 0 + genome (element_at a i) ≡ get_or a.genome (i + 1) 0) × (get_or a.transcript i 0 + transcript (element_at a i) ≡ get_or a.transcript (i + 1) 0)
  unfolding genome transcript
  both_step i below =
      let (dg, dt) = steps_say (kind_of (get_or a.letters i 0)) _ _ (holds.steps i below) in
      (omega (arith, dg, holds.genome_rises.each i below), omega (arith, dt, holds.transcript_rises.each i below))

  pub genome_step : (i : ℕ) → i < n → get_or a.genome i 0 + genome (element_at a i) ≡ get_or a.genome (i + 1) 0
  genome_step i below = (both_step i below).0

  pub transcript_step : (i : ℕ) → i < n → get_or a.transcript i 0 + transcript (element_at a i) ≡ get_or a.transcript (i + 1) 0
  transcript_step i below = (both_step i below).1

  genome_alike : Alike (n + 1) a.genome (entries_of genome (read a n))
  genome_alike = entries_are a n genome a.genome genome_step holds.genome_from_0

  transcript_alike : Alike (n + 1) a.transcript (entries_of transcript (read a n))
  transcript_alike = entries_are a n transcript a.transcript transcript_step holds.transcript_from_0

  letters_alike : Alike n a.letters (letters_of (read a n))
  letters_alike k h = let e : 0 + k ≡ k = omega arith in sym (rw e at (letters_from a 0 n k h))

  -- the last entries are the lengths
  last_is : (side : Side) (starts : List ℕ) → Alike (n + 1) starts (entries_of side (read a n)) → total side (read a n) ≡ get_or starts n 0
  last_is side starts alike = sym (alike n (omega arith) ∙ rw (read_length a n) at (entry_total side (read a n)))

  pub last_genome : total genome (read a n) ≡ get_or a.genome n 0
  last_genome = last_is genome a.genome genome_alike

  pub last_transcript : total transcript (read a n) ≡ get_or a.transcript n 0
  last_transcript = last_is transcript a.transcript transcript_alike

  -- the finder over the table of genome starts is the finder over the elements
  pub index_by_genome : 0 < n → (p : ℤ) → index_of a.genome n p ≡ index_of (entries_of genome (read a n)) (length (read a n)) p
  index_by_genome some p = rw (read_length a n) (same_index a.genome (entries_of genome (read a n)) n p some (λ k h. genome_alike k (omega arith)))

  -- both directions
  module _ (some : 0 < n) (p : ℤ) (e : End) (forward : Bool) where
    pub by_genome : map_by_tables a.genome a.transcript a.letters n p e forward ≡ map_place genome transcript (read a n) p e forward
    unfolding map_place
    by_genome = rw (read_length a n) (map_alike _ _ _ _ _ _ n some genome_alike transcript_alike letters_alike p e forward)

    pub by_transcript : map_by_tables a.transcript a.genome a.letters n p e forward ≡ map_place transcript genome (read a n) p e forward
    unfolding map_place
    by_transcript = rw (read_length a n) (map_alike _ _ _ _ _ _ n some transcript_alike genome_alike letters_alike p e forward)
