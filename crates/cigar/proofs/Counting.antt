-- The elements of a text are counted one by one: from the count up to a place, the count of the whole. Assumes nothing.
use Rattle.cigar.specs.declared.Step.{Step}
use Rattle.std.specs.Prelude.{Some, None}
use mathlib.Core.Path.{◌≡◌, refl, sym, ap, ◌∙◌}
use mathlib.Core.List.{List}
use Prim.Native.Nat.{ℕ, ◌+◌, ◌-◌, ◌<◌}
use native.Mathlib.Nat.{zero-add, add-zero}
use native.Mathlib.Omega.{arith}
use lib.ListN.{length, drop}
use borrow.Author.Tests.{eq-eqb, ne_eqb}
use Rattle.refusals.specs.Numbers.{most_segments}
use Rattle.refusals.specs.declared.Refusal.{Refusal}
use Rattle.refusals.specs.declared.Refusal.TheVariants.{TooMuch}
use Rattle.refusals.specs.Outcome.{Ok, Err, Outcome}
use Rattle.cigar.specs.Elements.{Element}
use Rattle.cigar.specs.Text.{step_at, Reading, before, element, read_all, counted_of}
use Rattle.cigar.specs.laws.Steps.{go_on, goes_on}

-- n elements, and then those of a reading
abbrev pub counted_from : ℕ → Reading → Outcome ℕ
counted_from n (Ok es) = Ok (n + length es)
counted_from n (Err k) = Err k

pub counted_none : (r : Reading) → counted_of r ≡ counted_from 0 r
counted_none (Ok es) = ap Ok (sym (zero-add (length es)))
counted_none (Err k) = refl

counted_more : (n : ℕ) (e : Element) (r : Reading) → counted_from n (before e r) ≡ counted_from (n + 1) r
counted_more n e (Ok es) = ap {A = ℕ} Ok (omega arith)
counted_more n e (Err k) = refl

-- the four ways in which a step goes on, after n elements
module _ (text : List ℕ) (at n : ℕ) where
  abbrev rest : Outcome ℕ
  rest = counted_from n (read_all (most_segments - n) (drop at text))

  pub counted_element : {s : Step} → n < most_segments → step_at text at ≡ Ok (Some s)
      → rest ≡ counted_from (n + 1) (read_all (most_segments - (n + 1)) (drop s.next text))
  counted_element {s} h e =
      let fewer : most_segments - n - 1 ≡ most_segments - (n + 1) = omega arith in
      ap (counted_from n) (goes_on (most_segments - n) text at ∙ ap (go_on (most_segments - n) text) e)
      ∙ rw (ne_eqb (most_segments - n) 0 (λ z. omega arith), fewer) (counted_more n (element s.count s.letter) (read_all (most_segments - (n + 1)) (drop s.next text)))

  pub counted_full : {s : Step} → n ≡ most_segments → step_at text at ≡ Ok (Some s) → rest ≡ Err TooMuch
  counted_full h e =
      ap (counted_from n) (goes_on (most_segments - n) text at ∙ ap (go_on (most_segments - n) text) e)
      ∙ rw (eq-eqb (most_segments - n) 0 (omega arith))

  pub counted_refused : {k : Refusal} → step_at text at ≡ Err k → rest ≡ Err k
  counted_refused e = ap (counted_from n) (goes_on (most_segments - n) text at ∙ ap (go_on (most_segments - n) text) e)

  pub counted_end : step_at text at ≡ Ok None → rest ≡ Ok n
  counted_end e =
      ap (counted_from n) (goes_on (most_segments - n) text at ∙ ap (go_on (most_segments - n) text) e) ∙ ap Ok (add-zero n)
