-- `reading::tally_text` meets its contract: the loop keeps that the whole tally is that of the text that is left, from the sums so far; each way on has its law. Assumes nothing.
use mathlib.Core.Path.{◌≡◌, refl, sym, ap, subst, ◌∙◌}
use Prim.Native.Nat.{◌≤◌, ◌<◌}
use native.Mathlib.Omega.{arith}
use lib.ListN.{length}
use Rattle.std.specs.Prelude.{Some}
use Rattle.std.proofs.lemmas.Result.{err_from_is_err_and}
use Rattle.refusals.specs.Outcome.{Ok}
use Rattle.refusals.specs.Numbers.{most_segments}
use Rattle.cigar.specs.Text.{step_at}
use Rattle.cigar.specs.laws.Steps.{Moves, moves}
use Rattle.reading.specs.laws.Texts.{tally_element, tally_full, tally_refused, tally_end}
use Rattle.reading.proofs.tally_text.Goals as goal
use Rattle.reading.proofs.tally_text.Goals.{In-Some}

pub loop-step-init : goal.loop-step-init
loop-step-init c = (omega arith, c.requires, refl)

pub returns-in_err-step : goal.returns-in_err-step
returns-in_err-step c =
    let l = c.loop-step in
    let p = err_from_is_err_and c.from_residual.result c.from_residual.ensures.1 in
    rw (p.1, p.2) (sym (l.invariant.2 ∙ tally_refused _ l.at l.sums (sym c.step_at.ensures ∙ c.in_err-step.was)), tt)

-- where a step found an element, and the place after it
module _ (c : In-Some) where
  found : step_at c.args.text.now c.loop-step.at ≡ Ok (Some c.in-Some.step)
  found = sym c.step_at.ensures ∙ c.in_ok-step.was ∙ ap Ok c.in-Some.is

  moved : (c.loop-step.at < c.in-Some.step.next) × (c.in-Some.step.next ≤ length c.args.text.now)
  moved = subst (Moves c.loop-step.at (length c.args.text.now)) found (moves c.args.text.now c.loop-step.at c.loop-step.invariant.0)

pub returns-then-sums-eq-MOST_SEGMENTS : goal.returns-then-sums-eq-MOST_SEGMENTS
returns-then-sums-eq-MOST_SEGMENTS c =
    let l = c.loop-step in
    (sym (l.invariant.2 ∙ tally_full _ l.at l.sums c.if-sums-eq-MOST_SEGMENTS.true (found (goal.at.returns-then-sums-eq-MOST_SEGMENTS c).In-Some)), tt)

pub one_on-sums-requires : goal.one_on-sums-requires
one_on-sums-requires c = let l = c.loop-step in (l.invariant.1, omega (arith, l.invariant.1.few))

pub loop-step-smaller : goal.loop-step-smaller
loop-step-smaller c = let m = moved (goal.at.loop-step-smaller c).In-Some in omega arith

pub loop-step-preserved : goal.loop-step-preserved
loop-step-preserved c =
    let l = c.loop-step in
    let room : l.sums.count < most_segments = omega (arith, l.invariant.1.few) in (
      (moved (goal.at.loop-step-preserved c).In-Some).1,
      c.one_on-sums.ensures.1,
      l.invariant.2 ∙ rw c.one_on-sums.ensures.0 (tally_element _ l.at l.sums room (found (goal.at.loop-step-preserved c).In-Some)),
    )

pub returns : goal.returns
returns c =
    let l = c.loop-step in
    (sym (l.invariant.2 ∙ tally_end _ l.at l.sums (sym c.step_at.ensures ∙ c.in_ok-step.was ∙ ap Ok c.in_default.is)), l.invariant.1)
