-- `cigar::count_elements` meets its contract. The loop's invariant: the whole text has n elements more than what is left. Each way on cites the law for what the step found.
-- Assumes nothing.
use mathlib.Core.Path.{◌≡◌, sym, ap, subst, ◌∙◌}
use Prim.Native.Nat.{◌≤◌, ◌<◌}
use native.Mathlib.Omega.{arith}
use lib.ListN.{length}
use Rattle.std.specs.Prelude.{Some}
use Rattle.std.proofs.lemmas.Result.{err_from_is_err_and}
use Rattle.refusals.specs.Outcome.{Ok}
use Rattle.refusals.specs.Numbers.{most_segments}
use Rattle.cigar.specs.Text.{step_at, read_all}
use Rattle.cigar.specs.laws.Steps.{Moves, moves}
use Rattle.cigar.proofs.Counting.{counted_none, counted_element, counted_full, counted_refused, counted_end}
use Rattle.cigar.proofs.count_elements.Goals as goal
use Rattle.cigar.proofs.count_elements.Goals.{In-Some}

-- where a step found an element
module _ (c : In-Some) where
  found : step_at c.args.text.now c.loop-step.at ≡ Ok (Some c.in-Some.step)
  found = sym c.step_at.ensures ∙ c.in_ok-step.was ∙ ap Ok c.in-Some.is

  moved : (c.loop-step.at < c.in-Some.step.next) × (c.in-Some.step.next ≤ length c.args.text.now)
  moved = subst (Moves c.loop-step.at (length c.args.text.now)) found (moves c.args.text.now c.loop-step.at c.loop-step.invariant.1)

pub loop-step-init : goal.loop-step-init
loop-step-init c = (omega arith, omega arith, counted_none (read_all most_segments c.args.text.now))

pub returns-in_err-step : goal.returns-in_err-step
returns-in_err-step c =
    let l = c.loop-step in
    let p = err_from_is_err_and c.from_residual.result c.from_residual.ensures.1 in
    rw (p.1, p.2) (sym (l.invariant.2 ∙ counted_refused c.args.text.now l.at l.n (sym c.step_at.ensures ∙ c.in_err-step.was)))

pub returns-then-n-eq-MOST_SEGMENTS : goal.returns-then-n-eq-MOST_SEGMENTS
returns-then-n-eq-MOST_SEGMENTS c =
    let l = c.loop-step in
    sym (l.invariant.2 ∙ counted_full _ l.at l.n c.if-n-eq-MOST_SEGMENTS.true (found (goal.at.returns-then-n-eq-MOST_SEGMENTS c).In-Some))

pub loop-step-smaller : goal.loop-step-smaller
loop-step-smaller c = let m = moved (goal.at.loop-step-smaller c).In-Some in omega arith

pub loop-step-preserved : goal.loop-step-preserved
loop-step-preserved c =
    let m = moved (goal.at.loop-step-preserved c).In-Some in
    let l = c.loop-step in
    (omega arith, m.1, l.invariant.2 ∙ counted_element _ l.at l.n (omega arith) (found (goal.at.loop-step-preserved c).In-Some))

pub returns : goal.returns
returns c =
    let l = c.loop-step in
    sym (l.invariant.2 ∙ counted_end c.args.text.now l.at l.n (sym c.step_at.ensures ∙ c.in_ok-step.was ∙ ap Ok c.in_default.is))
