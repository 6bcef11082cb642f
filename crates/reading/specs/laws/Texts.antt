-- A text is tallied element by element: the ways in which a step of the tally goes on. Assumes nothing.
use Rattle.std.specs.Prelude.{◌≡◌, refl, List, [], ◌∷◌, ℕ, ◌+◌, ◌-◌, ◌<◌, drop, Some, None}
use Rattle.std.proofs.Common.{ap, ◌∙◌, arith, eq-eqb, ne_eqb}
use Rattle.refusals.specs.Numbers.{most_segments}
use Rattle.refusals.specs.declared.Refusal.{Refusal}
use Rattle.refusals.specs.declared.Refusal.TheVariants.{TooMuch}
use Rattle.refusals.specs.Outcome.{Ok, Err, Outcome}
use Rattle.cigar.specs.declared.Step.{Step}
use Rattle.cigar.specs.Elements.{Element, total}
use Rattle.cigar.specs.Text.{step_at, Reading, before, element, read_all}
use Rattle.cigar.specs.laws.Steps.{go_on, goes_on}
use Rattle.reading.specs.Tallies.{one_on, sums_on, tallied}
use Rattle.reading.specs.declared.Sums.{Sums}

-- sums are equal by their parts
pub sums_eq : {s t : Sums} → s.count ≡ t.count → s.genome ≡ t.genome → s.transcript ≡ t.transcript → s ≡ t
sums_eq {s} {t} p q r = go p q r
  where
    go : {a b c x y z : ℕ} → a ≡ x → b ≡ y → c ≡ z → ◌≡◌ {A = Sums} (record { count = a; genome = b; transcript = c }) (record { count = x; genome = y; transcript = z })
    go p q r = cc

-- one element more in front
pub on_one : (s : Sums) (x : Element) (es : List Element) → sums_on s (x ∷ es) ≡ sums_on (one_on s x) es
unfolding total
on_one s x es = sums_eq (omega arith) (omega arith) (omega arith)

tallied_before : (s : Sums) (x : Element) (r : Reading) → tallied s (before x r) ≡ tallied (one_on s x) r
tallied_before s x (Ok es) = ap Ok (on_one s x es)
tallied_before s x (Err k) = refl

-- nothing more
pub on_none : (s : Sums) → sums_on s [] ≡ s
unfolding total
on_none s = sums_eq (omega arith) (omega arith) (omega arith)

module _ (text : List ℕ) (at : ℕ) (s : Sums) where
  abbrev rest : Outcome Sums
  rest = tallied s (read_all (most_segments - s.count) (drop at text))

  goes : rest ≡ tallied s (go_on (most_segments - s.count) text (step_at text at))
  goes = ap (tallied s) (goes_on (most_segments - s.count) text at)

  pub tally_element : {found : Step} → s.count < most_segments → step_at text at ≡ Ok (Some found)
      → rest ≡ tallied (one_on s (element found.count found.letter)) (read_all (most_segments - (s.count + 1)) (drop found.next text))
  tally_element {found} h e =
      let fewer : most_segments - s.count - 1 ≡ most_segments - (s.count + 1) = omega arith in
      goes
      ∙ rw (e, ne_eqb (most_segments - s.count) 0 (λ z. omega arith), fewer)
      (tallied_before s (element found.count found.letter) (read_all (most_segments - (s.count + 1)) (drop found.next text)))

  pub tally_full : {found : Step} → s.count ≡ most_segments → step_at text at ≡ Ok (Some found) → rest ≡ Err TooMuch
  tally_full h e = goes ∙ rw (e, eq-eqb (most_segments - s.count) 0 (omega arith))

  pub tally_refused : {k : Refusal} → step_at text at ≡ Err k → rest ≡ Err k
  tally_refused e = goes ∙ rw e

  pub tally_end : step_at text at ≡ Ok None → rest ≡ Ok s
  tally_end e = goes ∙ rw e (ap Ok (on_none s))
