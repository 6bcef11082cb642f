-- The matched element next to an intron: between the two there are elements of count 0 only. Assumes nothing.
use Prim.Native.Nat.{◌<◌}
use native.Mathlib.Omega.{arith}
use mathlib.Core.Bool.{true, false≢true}
use mathlib.Core.List.{List, [], ◌∷◌, ◌++◌, reverse, reverse-cons, reverse-append, reverse-reverse, append_assoc}
use mathlib.Core.Path.{◌≡◌, refl, sym, ap, ◌∙◌}
use lib.Dec.{eqb}
use borrow.Author.Tests.{eqb-true, eqb-false}
use Rattle.whole.specs.laws.Whole.{by_test}
use Rattle.cigar.specs.Elements.{Element, genome, transcript, total}
use Rattle.promises.specs.Bases.{is_match, next_matches}
use Rattle.segments.specs.laws.Totals.{total_reverse}
use Rattle.promises.proofs.Columns.{none_genome, none_transcript}

-- a matched element of a list, with what stands on its two sides
pub record Edge (xs : List Element) : Type 0 where
  pub left : List Element
  pub element : Element
  pub right : List Element
  pub stands : xs ≡ left ++ element ∷ right
  pub match : is_match element ≡ true
  pub some : 0 < element.count

-- elements that go nowhere
pub record Nowhere (xs : List Element) : Type 0 where
  pub on_genome : total genome xs ≡ 0
  pub on_transcript : total transcript xs ≡ 0

pub edge_after : (ys : List Element) → next_matches ys ≡ true → (e : Edge ys) × Nowhere e.left
unfolding next_matches total
edge_after [] = λ h. absurd (false≢true h)
edge_after (y ∷ ys) =
    by_test (eqb y.count 0)
    (λ z. rw z (λ h.
    let (e, n) = edge_after ys h in
    let none = eqb-true y.count 0 z in (
      record { left = y ∷ e.left; element = e.element; right = e.right; stands = ap (λ (l : List Element). y ∷ l) e.stands; match = e.match; some = e.some },
      record { on_genome = omega (arith, none_genome y none, n.on_genome); on_transcript = omega (arith, none_transcript y none, n.on_transcript) },
    )))
    (λ z. rw z (λ h. (
      record { left = []; element = y; right = ys; stands = refl; match = h; some = omega (arith, eqb-false y.count 0 z) },
      record { on_genome = refl; on_transcript = refl },
    )))

-- seen from its end, a list is the reverse
pub edge_before : (xs : List Element) → next_matches (reverse xs) ≡ true → (e : Edge xs) × Nowhere e.right
edge_before xs h =
    let (e, n) = edge_after (reverse xs) h in (
      record {
        left = reverse e.right;
        element = e.element;
        right = reverse e.left;
        stands = sym (reverse-reverse xs) ∙ ap reverse e.stands ∙ from_end e.left e.element e.right;
        match = e.match;
        some = e.some;
      },
      record { on_genome = total_reverse genome e.left ∙ n.on_genome; on_transcript = total_reverse transcript e.left ∙ n.on_transcript },
    )
  where
    from_end : (near : List Element) (x : Element) (far : List Element) → reverse (near ++ x ∷ far) ≡ reverse far ++ x ∷ reverse near
    from_end near x far = reverse-append near (x ∷ far) ∙ ap (λ (l : List Element). l ++ reverse near) (reverse-cons x far) ∙ append_assoc (reverse far) (x ∷ []) (reverse near)
