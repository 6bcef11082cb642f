-- Demand 2: in strict mode each base of a matched column, and each base of an intron between matched columns, maps to n. and c. and back to itself, on either strand; an intron base counts from the nearest exon base, halfway from the upstream one. Assumes nothing.
use Rattle.std.specs.Prelude.{if◌then◌else◌}
use Prim.Native.Nat.{ℕ, ◌+◌, ◌-◌, ◌≤◌, ◌<◌}
use native.Mathlib.Omega.{arith}
use mathlib.Core.Bool.{Bool, true, false}
use mathlib.Core.List.{List, [], ◌∷◌, ◌++◌, append_assoc}
use mathlib.Core.Path.{◌≡◌, refl, sym, ap, ◌∙◌}
use lib.IntN.{ℤ, pos, neg_ℤ, neg_ℤ-neg_ℤ, ◌+ℤ◌, ◌-ℤ◌}
use lib.ListN.{length}
use borrow.Author.Tests.{leb-true, leb-false}
use Rattle.whole.specs.laws.Whole.{by_test, order, sum, dif, neg}
use Rattle.cigar.specs.Elements.{Element, kind_of, kind, genome, transcript, total}
use Rattle.cigar.specs.Elements.Kind.{matches, skips}
use Rattle.segments.specs.Places.{no_edge, left_edge, right_edge, surely, End, left_nearer, nearer, spot_in, map_place}
use Rattle.segments.specs.Exons.{exon_found}
use Rattle.transcript.specs.Transcript.{Transcript, exon_number, genome_length, transcript_length}
use Rattle.spots.specs.Mapping.{signed}
use Rattle.promises.specs.Bases.{Lies, Matched, upstream_in, upstream_of, exon_name, InIntron, place_before, place_after, apart, upstream_nearer, intron_name, by_elements, exon_base_numbers, intron_base_numbers}
use Rattle.promises.specs.Demands.{ours, Named, FromNearest, BasesNamed}
use Rattle.promises.proofs.InRange.{InRange}
use Rattle.segments.specs.laws.Totals.{total_append}
use Rattle.segments.proofs.laws.Amid.{slid, place_amid, one_place}
use Rattle.promises.proofs.Turns.{across}
use Rattle.promises.proofs.Columns.{Column, match_kind, match_genome, match_transcript, skip_genome, skip_transcript, column_maps, column_within, across_column, total_one}
use Rattle.promises.proofs.Edges.{edge_before, edge_after}
use Rattle.promises.proofs.Naming.{Reaches, has_name}

-- ---- a matched column

unsigned : (forward : Bool) → signed forward (pos 0) ≡ pos 0
unsigned true = refl
unsigned false = refl

module _ {t : Transcript} {p : ℕ} (b : Matched t p) where
  abbrev own : Lies t.elements p
  own = b.lies

  kind_is : kind own.element ≡ matches
  kind_is = match_kind own.element b.match

  -- its place on the transcript, along the genome
  abbrev other : ℕ
  other = total transcript own.before + own.at

  at_in : own.at < own.element.count
  at_in = omega (arith, own.within, match_genome own.element kind_is)

  abbrev column : Column genome transcript t.elements p other
  column = record {
    before = own.before;
    element = own.element;
    after = own.after;
    at = own.at;
    stands = own.stands;
    match = kind_is;
    within = at_in;
    on_from = own.place;
    on_to = refl;
  }

  -- turned, it is the bases upstream
  counted : across t.forward (transcript_length t) other ≡ upstream_of b
  unfolding total
  counted = go t.forward
    where
      length_is : transcript_length t ≡ total transcript own.before + (own.element.count + total transcript own.after)
      length_is = ap (total transcript) own.stands ∙ omega (arith, total_append transcript own.before (own.element ∷ own.after), match_transcript own.element kind_is)

      go : (forward : Bool) → across forward (transcript_length t) other ≡ upstream_in forward own
      go true = refl
      go false = omega (arith, length_is, at_in)

  reaches_column : Reaches t p other p (pos 0)
  reaches_column = record {
    segment = length own.before;
    edge = no_edge;
    there = λ e. column_maps genome transcript match_genome column e t.forward;
    exon_segment = length own.before;
    here = λ e. column_maps transcript genome match_transcript (across_column column) e true;
    sums = omega (order, sum (pos p) (pos 0));
    p_in = omega (arith, column_within genome transcript match_genome column);
    q_in = column_within transcript genome match_transcript (across_column column);
    o_in = omega arith;
  }

  exon_named : InRange t → Named ours t p (exon_name b) (exon_base_numbers (by_elements t) b)
  unfolding exon_found reaches_column
  exon_named in_range = rw (unsigned t.forward, counted) at (has_name t in_range p other p (pos 0) reaches_column)

-- ---- an intron

-- what the test of the two distances says
nearer_yes : (p u d : ℕ) → upstream_nearer p u d ≡ true → apart p u ≤ apart p d
unfolding upstream_nearer
nearer_yes p u d h = omega (arith, leb-true)

nearer_no : (p u d : ℕ) → upstream_nearer p u d ≡ false → apart p d < apart p u
unfolding upstream_nearer
nearer_no p u d h = omega (arith, leb-false)

module _ {t : Transcript} {p : ℕ} (b : InIntron t p) where
  abbrev xs : List Element
  xs = b.lies.before

  abbrev x : Element
  x = b.lies.element

  abbrev ys : List Element
  ys = b.lies.after

  abbrev k : ℕ
  k = b.lies.at

  skip_is : kind x ≡ skips
  unfolding kind_of
  skip_is = rw b.skip

  k_in : k < x.count
  k_in = omega (arith, b.lies.within, skip_genome x skip_is)

  -- the exon base before the intron, the last of the element that ends there
  unfoldable left : Matched t (place_before b)
  unfolding total
  left =
      let (e, n) = edge_before xs b.matched_before in
      let m = match_kind e.element e.match in
      record {
        lies = record {
          before = e.left;
          element = e.element;
          after = e.right ++ x ∷ ys;
          stands = b.lies.stands ∙ ap (λ (l : List Element). l ++ x ∷ ys) e.stands ∙ append_assoc e.left (e.element ∷ e.right) (x ∷ ys);
          at = e.element.count - 1;
          within = omega (arith, e.some, match_genome e.element m);
          place = omega (arith, ap (total genome) e.stands, total_append genome e.left (e.element ∷ e.right), n.on_genome, match_genome e.element m, e.some);
        };
        match = e.match;
      }

  before_is : (total genome xs ≡ place_before b + 1) × (total transcript xs ≡ other left + 1)
  unfolding total left
  before_is =
      let (e, n) = edge_before xs b.matched_before in
      let m = match_kind e.element e.match in (
        omega (arith, ap (total genome) e.stands, total_append genome e.left (e.element ∷ e.right), match_genome e.element m, e.some),
        omega (arith, ap (total transcript) e.stands, total_append transcript e.left (e.element ∷ e.right), n.on_transcript, match_transcript e.element m, e.some),
      )

  -- the one after it, the first of the element that begins there
  unfoldable right : Matched t (place_after b)
  unfolding total
  right =
      let (e, n) = edge_after ys b.matched_after in
      let m = match_kind e.element e.match in
      record {
        lies = record {
          before = xs ++ x ∷ e.left;
          element = e.element;
          after = e.right;
          stands = b.lies.stands ∙ ap (λ (l : List Element). xs ++ x ∷ l) e.stands ∙ sym (append_assoc xs (x ∷ e.left) (e.element ∷ e.right));
          at = 0;
          within = omega (arith, e.some, match_genome e.element m);
          place = omega (arith, total_append genome xs (x ∷ e.left), n.on_genome, skip_genome x skip_is);
        };
        match = e.match;
      }

  after_is : other right ≡ total transcript xs
  unfolding total right
  after_is =
      let (e, n) = edge_after ys b.matched_after in
      omega (arith, total_append transcript xs (x ∷ e.left), n.on_transcript, skip_transcript x skip_is)

  -- the base at k of the intron, as the finder and the rule have it
  alone : (e : End) (forward : Bool) → map_place genome transcript (x ∷ []) (pos k) e forward ≡ nearer 0 forward 0 (pos (k + 1)) (pos (x.count - k))
  unfolding spot_in
  alone e forward =
      let l : pos k -ℤ pos 0 +ℤ pos 1 ≡ pos (k + 1) = omega (order, dif (pos k) (pos 0), sum (pos k -ℤ pos 0) (pos 1)) in
      let r : pos (genome x) -ℤ pos k ≡ pos (x.count - k) = omega (order, dif (pos (genome x)) (pos k), skip_genome x skip_is, k_in) in
      rw (one_place genome transcript x (pos k) e forward, skip_is, l, r)

  skip_maps : (e : End) (forward : Bool) → map_place genome transcript t.elements (pos p) e forward ≡ slid (length xs) (total transcript xs) (nearer 0 forward 0 (pos (k + 1)) (pos (x.count - k)))
  skip_maps e forward =
      ap (λ (l : List Element). map_place genome transcript l (pos p) e forward) b.lies.stands
      ∙ ap (λ (q : ℕ). map_place genome transcript (xs ++ x ∷ ys) (pos q) e forward) b.lies.place
      ∙ (place_amid genome transcript xs (x ∷ []) ys k e forward (omega (arith, total_one genome x, b.lies.within))
      ∙ ap (slid (length xs) (total transcript xs)) (alone e forward))

  -- it is an inner place
  inner : total genome xs + x.count < genome_length t
  inner = column_within genome transcript match_genome (column right)

  same_number : length xs + 0 ≡ length xs
  same_number = omega arith

  from_left : left_nearer t.forward (pos (k + 1)) (pos (x.count - k)) ≡ true → Reaches t p (other left) (place_before b) (pos (k + 1))
  unfolding nearer
  from_left near =
      let one : pos (total transcript xs) +ℤ (pos 0 -ℤ pos 1) ≡ pos (other left) = omega (order, sum (pos (total transcript xs)) (pos 0 -ℤ pos 1), before_is.1) in
      record {
        segment = length xs;
        edge = left_edge;
        there = λ e. skip_maps e t.forward ∙ (rw (near, one, same_number));
        exon_segment = length left.lies.before;
        here = λ e. column_maps transcript genome match_transcript (across_column (column left)) e true;
        sums = omega (order, before_is.0, b.lies.place);
        p_in = omega (arith, inner, k_in, b.lies.place);
        q_in = column_within transcript genome match_transcript (across_column (column left));
        o_in = record { high = omega (arith, inner, k_in); low = omega arith };
      }

  from_right : left_nearer t.forward (pos (k + 1)) (pos (x.count - k)) ≡ false → Reaches t p (other right) (place_after b) (neg_ℤ (pos (x.count - k)))
  unfolding nearer
  from_right far =
      let none : total transcript xs + 0 ≡ other right = omega (arith, after_is) in
      record {
        segment = length xs;
        edge = right_edge;
        there = λ e. skip_maps e t.forward ∙ (rw (far, none, same_number));
        exon_segment = length right.lies.before;
        here = λ e. column_maps transcript genome match_transcript (across_column (column right)) e true;
        sums = omega (order, sum (pos (place_after b)) (neg_ℤ (pos (x.count - k))), neg (pos (x.count - k)), k_in, b.lies.place);
        p_in = omega (arith, inner, k_in, b.lies.place);
        q_in = column_within transcript genome match_transcript (across_column (column right));
        o_in = record { high = omega (arith, neg (pos (x.count - k))); low = omega (arith, neg (pos (x.count - k)), inner) };
      }

  -- the two distances
  left_apart : apart p (place_before b) ≡ k + 1
  left_apart = omega (arith, before_is.0, b.lies.place)

  right_apart : apart p (place_after b) ≡ x.count - k
  right_apart = omega (arith, k_in, b.lies.place)

  module _ (in_range : InRange t) (forward : Bool) (is : t.forward ≡ forward) where
    -- named from the exon base e at a, whose offset along the genome is o, with the number n
    from_edge : {a : ℕ} (e : Matched t a) (o o' : ℤ) (n : ℕ) (r : Reaches t p (other e) a o) → signed forward o ≡ o' → exon_found (exon_number t) (surely r.segment r.edge (pos (other e)) o) ≡ n
        → exon_number t r.exon_segment ≡ (by_elements t).of_exon a e → Named ours t p (record { upstream = upstream_of e; offset = o' }) (record { of_base = n; of_name = (by_elements t).of_exon a e })
    from_edge {a} e o o' n r o_is n_is own_is = rw (counted e, ap (λ (f : Bool). signed f o) is ∙ o_is, n_is, own_is) at (has_name t in_range p (other e) a o r)

    as_nearer : {v : Bool} → left_nearer forward (pos (k + 1)) (pos (x.count - k)) ≡ v → left_nearer t.forward (pos (k + 1)) (pos (x.count - k)) ≡ v
    as_nearer h = ap (λ (f : Bool). left_nearer f (pos (k + 1)) (pos (x.count - k))) is ∙ h

    left_named : left_nearer forward (pos (k + 1)) (pos (x.count - k)) ≡ true → (o : ℤ) → signed forward (pos (k + 1)) ≡ o → (n : ℕ) → (by_elements t).on_left p b ≡ n
        → Named ours t p (record { upstream = upstream_of left; offset = o }) (record { of_base = n; of_name = (by_elements t).of_exon (place_before b) left })
    unfolding exon_found from_left
    left_named near o o_is n n_is = from_edge left (pos (k + 1)) o n (from_left (as_nearer near)) o_is n_is refl

    right_named : left_nearer forward (pos (k + 1)) (pos (x.count - k)) ≡ false → (o : ℤ) → signed forward (neg_ℤ (pos (x.count - k))) ≡ o → (n : ℕ) → (by_elements t).on_right p b ≡ n
        → Named ours t p (record { upstream = upstream_of right; offset = o }) (record { of_base = n; of_name = (by_elements t).of_exon (place_after b) right })
    unfolding exon_found from_right
    right_named far o o_is n n_is = from_edge right (neg_ℤ (pos (x.count - k))) o n (from_right (as_nearer far)) o_is n_is refl

  abbrev on_left : ℕ
  on_left = (by_elements t).on_left p b

  abbrev on_right : ℕ
  on_right = (by_elements t).on_right p b

  -- the number upstream or downstream, where the strand is known
  side : {forward : Bool} (l r : ℕ) → t.forward ≡ forward → (if forward then l else r) ≡ (if t.forward then l else r)
  side l r e = ap (λ (f : Bool). if f then l else r) (sym e)

  nearest : InRange t → (forward : Bool) → t.forward ≡ forward → FromNearest (Named ours t) t (by_elements t) p (if forward then place_before b else place_after b) (if forward then place_after b else place_before b) b
  unfolding intron_name intron_base_numbers
  nearest in_range true e = record {
    up = left;
    down = right;
    named = by_test (upstream_nearer p (place_before b) (place_after b))
        (λ h. rw (h, left_apart) (left_named in_range true e (omega (order, left_apart, right_apart, nearer_yes)) (pos (k + 1)) refl _ (side on_left on_right e)))
        (λ h. rw (h, right_apart) (right_named in_range true e (omega (order, left_apart, right_apart, nearer_no)) (neg_ℤ (pos (x.count - k))) refl _ (side on_right on_left e)));
  }
  nearest in_range false e = record {
    up = right;
    down = left;
    named = by_test (upstream_nearer p (place_after b) (place_before b))
        (λ h. rw (h, right_apart) (right_named in_range false e (omega (order, left_apart, right_apart, nearer_yes)) (pos (x.count - k)) (neg_ℤ-neg_ℤ (pos (x.count - k))) _ (side on_left on_right e)))
        (λ h. rw (h, left_apart) (left_named in_range false e (omega (order, left_apart, right_apart, nearer_no)) (neg_ℤ (pos (k + 1))) refl _ (side on_right on_left e)));
  }

pub bases_named : (t : Transcript) → InRange t → BasesNamed (Named ours t) t (by_elements t)
bases_named t in_range = record {
  exon_base = λ p b. exon_named b in_range;
  intron_base = λ p b. nearest b in_range t.forward refl;
}
