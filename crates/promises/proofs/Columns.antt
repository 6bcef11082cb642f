-- Matched columns: a place of one goes to its place on the other side, in both directions alike. Assumes nothing.
use Prim.Native.Nat.{ℕ, ◌+◌, ◌<◌}
use native.Mathlib.Omega.{arith}
use mathlib.Core.Bool.{Bool, true, false≢true}
use mathlib.Core.List.{List, [], ◌∷◌, ◌++◌}
use mathlib.Core.Path.{◌≡◌, refl, ap, ◌∙◌}
use lib.Dec.{eqb}
use lib.IntN.{pos}
use lib.ListN.{length}
use borrow.Author.Tests.{eqb-true}
use Rattle.whole.specs.laws.Whole.{by_test}
use Rattle.cigar.specs.Elements.{Element, Side, Kind, letter_equal, letter_m, letter_x, kind_of, kind, genome, transcript, total, along_genome, along_transcript}
use Rattle.cigar.specs.Elements.Kind.{matches, inserts, deletes, skips}
use Rattle.segments.specs.Places.{no_edge, surely, End, spot_in, map_place}
use Rattle.promises.specs.Bases.{is_match}
use Rattle.segments.specs.laws.Totals.{total_append}
use Rattle.segments.proofs.laws.Amid.{slid, place_amid, one_place}

-- the place p on the one side and the place q on the other are one column of a matching element
pub record Column (from to : Side) (es : List Element) (p q : ℕ) : Type 0 where
  pub before : List Element
  pub element : Element
  pub after : List Element
  pub at : ℕ
  pub stands : es ≡ before ++ element ∷ after
  pub match : kind element ≡ matches
  pub within : at < element.count
  pub on_from : p ≡ total from before + at
  pub on_to : q ≡ total to before + at

-- the three letters match
pub match_kind : (x : Element) → is_match x ≡ true → kind x ≡ matches
unfolding is_match kind_of
match_kind x =
    let c = x.letter in
    by_test (eqb c letter_equal)
    (λ t. rw (eqb-true c letter_equal t) (λ h. refl))
    (λ t.
    by_test (eqb c letter_m)
    (λ u. rw (eqb-true c letter_m u) (λ h. refl))
    (λ u.
    by_test (eqb c letter_x)
    (λ v. rw (eqb-true c letter_x v) (λ h. refl))
    (λ v. rw (t, u, v) (λ h. absurd (false≢true h)))))

-- how far an element goes, by its kind
pub match_genome : (x : Element) → kind x ≡ matches → genome x ≡ x.count
unfolding genome
match_genome x e = rw e

pub match_transcript : (x : Element) → kind x ≡ matches → transcript x ≡ x.count
unfolding transcript
match_transcript x e = rw e

pub skip_genome : (x : Element) → kind x ≡ skips → genome x ≡ x.count
unfolding genome
skip_genome x e = rw e

pub skip_transcript : (x : Element) → kind x ≡ skips → transcript x ≡ 0
unfolding transcript
skip_transcript x e = rw e

-- an element of count 0 goes nowhere
pub none_genome : (x : Element) → x.count ≡ 0 → genome x ≡ 0
unfolding genome
none_genome x h = rw h (nowhere (kind x))
  where
    nowhere : (c : Kind) → along_genome c 0 ≡ 0
    nowhere matches = refl
    nowhere inserts = refl
    nowhere deletes = refl
    nowhere skips = refl

pub none_transcript : (x : Element) → x.count ≡ 0 → transcript x ≡ 0
unfolding transcript
none_transcript x h = rw h (nowhere (kind x))
  where
    nowhere : (c : Kind) → along_transcript c 0 ≡ 0
    nowhere matches = refl
    nowhere inserts = refl
    nowhere deletes = refl
    nowhere skips = refl

-- a side on which a matching element goes as far as its count: both sides do
abbrev pub Counts : Side → Type 0
Counts side = (x : Element) → kind x ≡ matches → side x ≡ x.count

-- one element alone
alone : (from to : Side) (x : Element) (k : ℕ) (e : End) (forward : Bool) → kind x ≡ matches → map_place from to (x ∷ []) (pos k) e forward ≡ surely 0 no_edge (pos k) (pos 0)
unfolding spot_in
alone from to x k e forward m =
    let u : 0 + (k + 0) ≡ k = omega arith in
    rw (one_place from to x (pos k) e forward, m, u)

pub total_one : (side : Side) (x : Element) → total side (x ∷ []) ≡ side x
unfolding total
total_one side x = omega arith

module _ (from to : Side) (from_counts : Counts from) where
  pub column_maps : {es : List Element} {p q : ℕ} (c : Column from to es p q) (e : End) (forward : Bool)
      → map_place from to es (pos p) e forward ≡ surely (length c.before) no_edge (pos q) (pos 0)
  column_maps c e forward =
      let x = c.element in
      let none : length c.before + 0 ≡ length c.before = omega arith in
      rw (c.stands, c.on_from, c.on_to, ← none)
      (place_amid from to c.before (x ∷ []) c.after c.at e forward (omega (arith, total_one from x, from_counts x c.match, c.within))
      ∙ ap (slid (length c.before) (total to c.before)) (alone from to x c.at e forward c.match))

  pub column_within : {es : List Element} {p q : ℕ} → Column from to es p q → p < total from es
  unfolding total
  column_within c =
      let x = c.element in
      rw c.stands (omega (arith, total_append from c.before (x ∷ c.after), from_counts x c.match, c.within, c.on_from))

abbrev pub across_column : {from to : Side} {es : List Element} {p q : ℕ} → Column from to es p q → Column to from es q p
across_column c = record { before = c.before; element = c.element; after = c.after; at = c.at; stands = c.stands; match = c.match; within = c.within; on_from = c.on_to; on_to = c.on_from }
