-- A text and a record whose tally is no refusal. Assumes nothing.
use Rattle.std.specs.Prelude.{Some, None}
use mathlib.Core.Path.{◌≡◌, refl, sym, ap, ◌∙◌}
use mathlib.Core.List.{List, [], ◌∷◌}
use Prim.Native.Nat.{ℕ, ◌+◌, ◌-◌, ◌≤◌, ◌<◌}
use native.Mathlib.Omega.{arith}
use lib.Dec.{eqb, ltb}
use lib.ListN.{take, drop}
use borrow.Author.Tests.{ltb-true, ltb-false, eqb-true, eqb-false, ne_eqb}
use Rattle.refusals.specs.Numbers.{most_text, most_segments}
use Rattle.refusals.specs.declared.Refusal.{Refusal}
use Rattle.refusals.specs.Outcome.{Ok, Err, Outcome}
use Rattle.whole.specs.laws.Whole.{by_test}
use Rattle.cigar.specs.declared.Step.{Step}
use Rattle.cigar.specs.Elements.{Element}
use Rattle.cigar.specs.Text.{step_at, Reading, before, element, read_all, elements_in}
use Rattle.cigar.specs.laws.Steps.{go_on, goes_on}
use Rattle.records.specs.Layout.{cigar_text}
use Rattle.records.specs.Records.{next_at, record_at}
use Rattle.records.specs.Walk.{Stands}
use Rattle.reading.specs.Reading.{read_first, read_next}
use Rattle.reading.specs.Tallies.{nothing, one_on, sums_on, tallied}
use Rattle.reading.specs.declared.Sums.{Sums}
use Rattle.reading.specs.laws.Sizes.{cigar_is, first_large, first_read, next_large, next_full, next_read}
use Rattle.reading.specs.laws.Texts.{tally_element, tally_full, tally_refused}

-- a refusal is no sums
pub never : {k : Refusal} {s : Sums} → ◌≡◌ {A = Outcome Sums} (Err k) (Ok s) → ⊥
never e = let z : ◌≡◌ {A = ℕ} 0 1 = cc in omega arith

-- where elements end that were tallied
pub ends_at : (s to : Sums) (r : Reading) → tallied s r ≡ Ok to → to ≡ sums_on s (elements_in r)
ends_at s to (Ok es) e = let is : sums_on s es ≡ to = cc in sym is
ends_at s to (Err k) e = absurd (never e)

-- ---- a text, element by element

module _ (text : List ℕ) (at : ℕ) (s to : Sums) (told : tallied s (read_all (most_segments - s.count) (drop at text)) ≡ Ok to) where
  -- one element more
  pub record Taken (found : Step) : Type 0 where
    pub room : s.count < most_segments
    pub told_next : tallied (one_on s (element found.count found.letter)) (read_all (most_segments - (s.count + 1)) (drop found.next text)) ≡ Ok to
    pub is : elements_in (read_all (most_segments - s.count) (drop at text)) ≡ element found.count found.letter ∷ elements_in (read_all (most_segments - (s.count + 1)) (drop found.next text))

  taken_in : (x : Element) (r : Reading) → tallied (one_on s x) r ≡ Ok to → elements_in (before x r) ≡ x ∷ elements_in r
  taken_in x (Ok es) e = refl
  taken_in x (Err k) e = absurd (never e)

  pub take_element : {found : Step} → s.count ≤ most_segments → step_at text at ≡ Ok (Some found) → Taken found
  take_element {found} few e =
      by_test (ltb s.count most_segments)
      (λ q.
      let room = ltb-true s.count most_segments q in
      let fewer : most_segments - s.count - 1 ≡ most_segments - (s.count + 1) = omega arith in
      let rest = read_all (most_segments - (s.count + 1)) (drop found.next text) in
      let next_told : tallied (one_on s (element found.count found.letter)) rest ≡ Ok to = sym (tally_element text at s room e) ∙ told in
      let is : read_all (most_segments - s.count) (drop at text) ≡ before (element found.count found.letter) rest =
      goes_on (most_segments - s.count) text at ∙ rw (e, ne_eqb (most_segments - s.count) 0 (λ z. omega arith), fewer) in
      record { room = room; told_next = next_told; is = ap elements_in is ∙ taken_in (element found.count found.letter) rest next_told })
      (λ q. let past = ltb-false s.count most_segments q in absurd (never (sym (tally_full text at s (omega arith) e) ∙ told)))

  pub take_none : {k : Refusal} → step_at text at ≡ Err k → ⊥
  take_none e = never (sym (tally_refused text at s e) ∙ told)

  pub take_end : step_at text at ≡ Ok None → elements_in (read_all (most_segments - s.count) (drop at text)) ≡ []
  take_end e = ap elements_in (goes_on (most_segments - s.count) text at ∙ ap (go_on (most_segments - s.count) text) e)

-- ---- a record whose tally is no refusal reads as its text does

module _ (s : List ℕ) (at : ℕ) (stands : Stands s at) where
  abbrev text : List ℕ
  text = take (next_at s at - (at + cigar_text)) (drop (at + cigar_text) s)

  -- a refusal is no sums
  unread : (from : Sums) {to : Sums} {k : Refusal} (r : Reading) → tallied from r ≡ Ok to → r ≡ Err k → ⊥
  unread from r e q = never (sym (ap (tallied from) q) ∙ e)

  pub first_accepted : {to : Sums} → tallied nothing (read_first (record_at s at)) ≡ Ok to → read_first (record_at s at) ≡ read_all most_segments text
  first_accepted e =
      by_test (ltb most_text (next_at s at - (at + cigar_text)))
      (λ q. absurd (unread nothing _ e (first_large s at stands (ltb-true most_text (next_at s at - (at + cigar_text)) q))))
      (λ q. first_read s at stands (ltb-false most_text (next_at s at - (at + cigar_text)) q) ∙ ap (read_all most_segments) (cigar_is s at stands))

  pub next_accepted : (used : ℕ) (from : Sums) {to : Sums} → tallied from (read_next used (record_at s at)) ≡ Ok to
      → read_next used (record_at s at) ≡ read_all (most_segments - (used + 1)) text
  next_accepted used from e =
      by_test (ltb most_text (next_at s at - (at + cigar_text)))
      (λ q. absurd (unread from _ e (next_large s at stands used (ltb-true most_text (next_at s at - (at + cigar_text)) q))))
      (λ q.
      let small = ltb-false most_text (next_at s at - (at + cigar_text)) q in
      by_test (eqb used most_segments)
      (λ f. absurd (unread from _ e (next_full s at stands used small (eqb-true used most_segments f))))
      (λ f. next_read s at stands used small (eqb-false used most_segments f) ∙ ap (read_all (most_segments - (used + 1))) (cigar_is s at stands)))
