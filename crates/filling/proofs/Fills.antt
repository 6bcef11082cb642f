-- Elements are put into tables one by one, from the front and from the back. Assumes nothing.
use mathlib.Core.Path.{◌≡◌, refl, sym, ap, subst, ◌∙◌}
use mathlib.Core.Bool.{Bool, true, false}
use mathlib.Core.List.{List, [], ◌∷◌, ◌++◌, reverse, reverse-cons}
use Prim.Native.Nat.{ℕ, ◌+◌, ◌≤◌, ◌<◌}
use native.Mathlib.Omega.{arith}
use lib.ListN.{length, length-reverse, length-set}
use lib.Seq.{set_comm}
use Rattle.cigar.specs.Elements.{Element, genome, transcript}
use Rattle.segments.specs.laws.Totals.{total_reverse}
use Rattle.reading.specs.Tallies.{one_on, sums_on}
use Rattle.segments.specs.Tables.{Tables, tables}
use Rattle.filling.specs.Filling.{Long, put, fill, ordered, turned_on}
use Rattle.reading.specs.declared.Sums.{Sums}
use Rattle.reading.specs.laws.Texts.{sums_eq, on_one, on_none}

-- tables are equal by their parts
pub tables_eq : {g t l g₁ t₁ l₁ : List ℕ} → g ≡ g₁ → t ≡ t₁ → l ≡ l₁ → tables g t l ≡ tables g₁ t₁ l₁
tables_eq p q r = cc

-- ---- one run of elements after the other

pub fill_append : (a : Tables) (s : Sums) (xs ys : List Element) → fill a s (xs ++ ys) ≡ fill (fill a s xs) (sums_on s xs) ys
unfolding fill
fill_append a s [] ys = ap (λ (r : Sums). fill a r ys) (sym (on_none s))
fill_append a s (x ∷ xs) ys =
    fill_append (put a s x.letter) (one_on s x) xs ys
    ∙ ap (λ (r : Sums). fill (fill (put a s x.letter) (one_on s x) xs) r ys) (sym (on_one s x xs))

-- ---- the last element first

-- segments at two places can be put in either way round
put_comm : (a : Tables) (s p : Sums) (c d : ℕ) → s.count < p.count → put (put a s c) p d ≡ put (put a p d) s c
put_comm a s p c d h =
    tables_eq
    (set_comm a.genome s.count p.count s.genome p.genome (λ e. omega arith))
    (set_comm a.transcript s.count p.count s.transcript p.transcript (λ e. omega arith))
    (set_comm a.letters s.count p.count c d (λ e. omega arith))

-- a segment past a run can come before it
put_past : (a : Tables) (s p : Sums) (d : ℕ) (xs : List Element) → s.count + length xs ≤ p.count → put (fill a s xs) p d ≡ fill (put a p d) s xs
unfolding fill
put_past a s p d [] h = refl
put_past a s p d (x ∷ xs) h =
    put_past (put a s x.letter) (one_on s x) p d xs (omega arith)
    ∙ ap (λ (b : Tables). fill b (one_on s x) xs) (put_comm a s p x.letter d (omega arith))

pub sums_reverse : (s : Sums) (xs : List Element) → sums_on s (reverse xs) ≡ sums_on s xs
sums_reverse s xs =
    sums_eq
    (omega (arith, length-reverse xs))
    (omega (arith, total_reverse genome xs))
    (omega (arith, total_reverse transcript xs))

fill_reversed : (a : Tables) (s : Sums) (x : Element) (xs : List Element) → fill a s (reverse (x ∷ xs)) ≡ fill (put a (sums_on s xs) x.letter) s (reverse xs)
unfolding fill
fill_reversed a s x xs =
    ap (fill a s) (reverse-cons x xs)
    ∙ fill_append a s (reverse xs) (x ∷ [])
    ∙ ap (λ (r : Sums). put (fill a s (reverse xs)) r x.letter) (sums_reverse s xs)
    ∙ put_past a s (sums_on s xs) x.letter (reverse xs) (omega (arith, length-reverse xs))

-- ---- a turn of the loop that puts in a text's elements

-- where the elements begin that are left: after those that were put in, or, on strand -1, where all do
abbrev pub left_from : Bool → Sums → Sums → Sums
left_from true from at = at
left_from false from at = from

-- the next element goes from `at` on, and those after it go to `to`
pub fill_turn : (forward : Bool) (a : Tables) (from to at : Sums) (x : Element) (xs : List Element) → to ≡ sums_on (one_on at x) xs
    → fill a (left_from forward from at) (ordered forward (x ∷ xs))
    ≡ fill (put a (turned_on forward from to at (one_on at x)) x.letter) (left_from forward from (one_on at x)) (ordered forward xs)
unfolding fill
fill_turn true a from to at x xs e = refl
fill_turn false a from to at x xs e =
    fill_reversed a from x xs
    ∙ ap (λ (r : Sums). fill (put a r x.letter) from (reverse xs)) (sums_eq (omega (arith, ap (λ (s : Sums). s.count) e)) (omega (arith, ap (λ (s : Sums). s.genome) e)) (omega (arith, ap (λ (s : Sums). s.transcript) e)))

-- nothing is left
pub fill_none : (forward : Bool) (a : Tables) (s : Sums) → fill a s (ordered forward []) ≡ a
unfolding fill
fill_none true a s = refl
fill_none false a s = refl

-- all is left at the front
pub left_all : (forward : Bool) (from : Sums) → left_from forward from from ≡ from
left_all true from = refl
left_all false from = refl

-- ---- the tables stay as long as they are

pub long_put : {a : Tables} (s : Sums) (c : ℕ) → Long a → Long (put a s c)
long_put {a} s c h = record {
  genome_long = length-set a.genome s.count s.genome ∙ h.genome_long;
  transcript_long = length-set a.transcript s.count s.transcript ∙ h.transcript_long;
  letters_long = length-set a.letters s.count c ∙ h.letters_long;
}

pub long_fill : (a : Tables) (s : Sums) (xs : List Element) → Long a → Long (fill a s xs)
unfolding fill
long_fill a s [] h = h
long_fill a s (x ∷ xs) h = long_fill (put a s x.letter) (one_on s x) xs (long_put s x.letter h)

pub long_after : {b : Tables} (a : Tables) (s : Sums) (xs : List Element) → b ≡ fill a s xs → Long a → Long b
long_after a s xs e h = subst Long (sym e) (long_fill a s xs h)
