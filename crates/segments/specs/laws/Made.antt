-- The tables that elements make: what stands at every index, that they hold together, and that reading them gives the elements back. Assumes nothing.
use Prim.Native.Nat.{ℕ, zero, suc, ◌+◌, ◌-◌, ◌≤◌, ◌<◌, max}
use Rattle.std.proofs.Math.Numerals.{add-one}
use native.Mathlib.Omega.{arith}
use Rattle.std.specs.Prelude.{true, ◌≡◌, take, drop, replicate}
use mathlib.Core.List.{List, [], ◌∷◌, ◌++◌, reverse, reverse_aux}
use Rattle.std.proofs.Math.Path.{refl, sym}
use Rattle.std.proofs.Common.{ap, ◌∙◌, drop_of_length-le, drop-cons, eq-eqb}
use Rattle.std.proofs.Math.ListN.{get_or, length, get_or-map}
use Rattle.std.proofs.Math.Seq.{take-length}
use Rattle.refusals.specs.Numbers.{most_starts}
use Rattle.cigar.specs.Elements.{Element, Side, Kind, is_letter, kind_of, along_genome, along_transcript, genome, transcript, total}
use Rattle.cigar.specs.Elements.Kind.{matches, inserts, deletes, skips}
use Rattle.cigar.specs.Read.{letters_of}
use Rattle.segments.specs.Tables.{steps_of, Holds, element_at, elements_from, read, entries_from, entries_of, padded, tables_of}

-- each element's letter is one of the six
abbrev pub Lettered : List Element → Type 0
Lettered [] = Unit
Lettered (x ∷ xs) = (is_letter x.letter ≡ true) × Lettered xs

pub lettered_append : (xs ys : List Element) → Lettered xs → Lettered ys → Lettered (xs ++ ys)
lettered_append [] ys l m = m
lettered_append (x ∷ xs) ys l m = (l.0, lettered_append xs ys l.1 m)

lettered_onto : (xs ys : List Element) → Lettered xs → Lettered ys → Lettered (reverse_aux xs ys)
lettered_onto [] ys l m = m
lettered_onto (x ∷ xs) ys l m = lettered_onto xs (x ∷ ys) l.1 (l.0, m)

pub lettered_reverse : (xs : List Element) → Lettered xs → Lettered (reverse xs)
lettered_reverse xs l = lettered_onto xs [] l tt

-- what stands past the end of a list of elements
abbrev pub nowhere : Element
nowhere = record { count = 0; letter = 0 }

lettered_at : (es : List Element) (k : ℕ) → Lettered es → k < length es → is_letter (get_or es k nowhere).letter ≡ true
lettered_at [] k l h = absurd (omega arith)
lettered_at (x ∷ xs) zero l h = l.0
lettered_at (x ∷ xs) (suc k) l h = lettered_at xs k l.1 (omega arith)

-- ---- what stands at every index

-- a table has the entries, and 0 from there on: 0 is what stands past the end of a list of entries
pub padded_at : (n : ℕ) (entries : List ℕ) (k : ℕ) → get_or (padded n entries) k 0 ≡ get_or entries k 0
unfolding padded
padded_at n entries k = go entries (n - length entries) k
  where
    zeros : (m k : ℕ) → ◌≡◌ {A = ℕ} (get_or (replicate m 0) k 0) 0
    zeros zero k = refl
    zeros (suc m) zero = refl
    zeros (suc m) (suc k) = zeros m k

    go : (entries : List ℕ) (m k : ℕ) → get_or (entries ++ replicate m 0) k 0 ≡ get_or entries k 0
    go [] m k = zeros m k
    go (x ∷ xs) m zero = refl
    go (x ∷ xs) m (suc k) = go xs m k

-- element k's letter
pub letter_at : (es : List Element) (k : ℕ) → get_or (letters_of es) k 0 ≡ (get_or es k nowhere).letter
letter_at es k = get_or-map (λ (x : Element). x.letter) es k nowhere

module _ (side : Side) where
  entry_from : (es : List Element) (f k : ℕ) → k ≤ length es → get_or (entries_from side f es) k 0 ≡ f + total side (take k es)
  unfolding entries_from total
  entry_from [] f zero h = omega arith
  entry_from [] f (suc k) h = absurd (omega arith)
  entry_from (x ∷ xs) f zero h = omega arith
  entry_from (x ∷ xs) f (suc k) h = omega (arith, entry_from xs (f + side x) k (omega arith))

  next_from : (es : List Element) (f k : ℕ) → k < length es → get_or (entries_from side f es) (suc k) 0 ≡ get_or (entries_from side f es) k 0 + side (get_or es k nowhere)
  unfolding entries_from
  next_from [] f k h = absurd (omega arith)
  next_from (x ∷ []) f zero h = omega arith
  next_from (x ∷ y ∷ ys) f zero h = refl
  next_from (x ∷ xs) f (suc k) h = next_from xs (f + side x) k (omega arith)

  module _ (es : List Element) where
    -- the start of element k: how far those before it go
    pub entry_at : (k : ℕ) → k ≤ length es → get_or (entries_of side es) k 0 ≡ total side (take k es)
    entry_at k h = omega (arith, entry_from es 0 k h)

    -- the total after the last
    pub entry_total : get_or (entries_of side es) (length es) 0 ≡ total side es
    entry_total = entry_at (length es) (omega arith) ∙ ap (total side) (take-length es)

    pub entry_first : get_or (entries_of side es) 0 0 ≡ 0
    unfolding total
    entry_first = entry_at 0 (omega arith)

    -- an element goes from its start to the next
    pub entry_next : (k : ℕ) → k < length es → get_or (entries_of side es) (k + 1) 0 ≡ get_or (entries_of side es) k 0 + side (get_or es k nowhere)
    entry_next k h = rw (add-one k) (next_from es 0 k h)

-- ---- they hold together, and stand for the elements

steps_right : (k : Kind) (n : ℕ) → steps_of k (along_genome k n) (along_transcript k n) ≡ true
steps_right matches n = eq-eqb n n refl
steps_right inserts n = refl
steps_right deletes n = refl
steps_right skips n = refl

fullest : (k : Kind) (n : ℕ) → max (along_genome k n) (along_transcript k n) ≡ n
fullest matches n = omega arith
fullest inserts n = omega arith
fullest deletes n = omega arith
fullest skips n = omega arith

module _ (es : List Element) where
  -- segment k's steps are its element's
  genome_step : (k : ℕ) → k < length es → get_or (entries_of genome es) (k + 1) 0 - get_or (entries_of genome es) k 0 ≡ genome (get_or es k nowhere)
  genome_step k h = omega (arith, entry_next genome es k h)

  transcript_step : (k : ℕ) → k < length es → get_or (entries_of transcript es) (k + 1) 0 - get_or (entries_of transcript es) k 0 ≡ transcript (get_or es k nowhere)
  transcript_step k h = omega (arith, entry_next transcript es k h)

  pub made_hold : Lettered es → Holds (tables_of es) (length es)
  unfolding genome transcript
  made_hold lettered = record {
    genome_from_0 = simp padded_at (entry_first genome es);
    transcript_from_0 = simp padded_at (entry_first transcript es);
    letters = λ i below. simp (padded_at, letter_at) (lettered_at es i lettered below);
    genome_rises = record { each = λ i below. simp padded_at (omega (arith, entry_next genome es i below)) };
    transcript_rises = record { each = λ i below. simp padded_at (omega (arith, entry_next transcript es i below)) };
    steps = λ i below.
        let x = get_or es i nowhere in
        simp (padded_at, letter_at, genome_step i below, transcript_step i below) (steps_right (kind_of x.letter) x.count);
  }

  -- the last entries are the totals
  pub made_total : (side : Side) → get_or (padded most_starts (entries_of side es)) (length es) 0 ≡ total side es
  made_total side = padded_at most_starts (entries_of side es) (length es) ∙ entry_total side es

  element_back : (i : ℕ) → i < length es → element_at (tables_of es) i ≡ get_or es i nowhere
  unfolding genome transcript
  element_back i below =
      let x = get_or es i nowhere in
      simp (padded_at, letter_at, genome_step i below, transcript_step i below) (ap (λ (n : ℕ). record { count = n; letter = x.letter }) (fullest (kind_of x.letter) x.count))

  back_from : (i m : ℕ) → i + m ≡ length es → elements_from (tables_of es) i m ≡ drop i es
  unfolding elements_from
  back_from i zero e = sym (drop_of_length-le es {i = i} (omega arith))
  back_from i (suc m) e =
      let below : i < length es = omega arith in
      rw (element_back i below, back_from (i + 1) m (omega arith), add-one i) (sym (drop-cons es i nowhere below))

  -- what is read from the tables is what made them
  pub made_read : read (tables_of es) (length es) ≡ es
  made_read = back_from 0 (length es) (omega arith)
