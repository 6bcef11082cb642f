-- `cigar::fill_elements` meets its contract. What is left to store makes the tables that are promised, before and after a turn. Assumes nothing.
use Prim.Native.Nat.{◌+◌, ◌-◌, ◌≤◌, ◌<◌}
use mathlib.Core.Path.{◌≡◌, refl, sym, ap, subst, ◌∙◌}
use native.Mathlib.Omega.{arith}
use lib.IntN.{ℤ, pos}
use lib.ListN.{length}
use Rattle.std.specs.Prelude.{Some}
use Rattle.refusals.specs.Outcome.{Ok}
use Rattle.refusals.specs.Numbers.{most_count, most_segments}
use mir.Syntax.{w32}
use mir.Val.{to_z, of_z}
use mir.ValLaws.{to_z_pos}
use Rattle.cigar.specs.Text.{step_at}
use Rattle.cigar.specs.laws.Steps.{Moves, moves, Takes, takes, none_refused, all_taken}
use Rattle.cigar.specs.laws.Sound.{step_sound}
use Rattle.cigar.specs.Read.{Filled}
use Rattle.cigar.specs.laws.Filling.{fill_one, fill_none}
use Rattle.cigar.proofs.Filling.{tables_set}
use Rattle.cigar.proofs.fill_elements.Goals as goal
use Rattle.cigar.proofs.fill_elements.Goals.{In-Ok-Some}

-- where a step found an element, what follows from it
module _ (c : In-Ok-Some) where
  found : step_at c.args.text.now c.loop-step.at ≡ Ok (Some c.in-Ok-Some.step)
  found = sym c.step_at.ensures ∙ c.in-Ok-Some.is ∙ ap Ok c.in-Ok-Some.field-0-is

  small : c.in-Ok-Some.step.count ≤ most_count
  small = (step_sound c.args.text.now c.loop-step.at found).small

  moved : (c.loop-step.at < c.in-Ok-Some.step.next) × (c.in-Ok-Some.step.next ≤ length c.args.text.now)
  moved = subst (Moves c.loop-step.at (length c.args.text.now)) found (moves c.args.text.now c.loop-step.at c.loop-step.invariant.0)

  taken : Takes (most_segments - c.loop-step.n) c.args.text.now c.loop-step.at c.in-Ok-Some.step
  taken = takes _ c.args.text.now c.loop-step.at c.loop-step.invariant.2 found

pub loop-step-init : goal.loop-step-init
loop-step-init c = (omega arith, c.requires.full_length, c.requires.answered, record { counts_is = refl; letters_is = refl })

pub signed-number-requires : goal.signed-number-requires
signed-number-requires c = small c

pub offset_bounds-counts-n : goal.offset_bounds-counts-n
offset_bounds-counts-n c = let r = (taken (goal.at.offset_bounds-counts-n c).In-Ok-Some).some_room in omega arith

pub bounds-counts-n : goal.bounds-counts-n
bounds-counts-n c = let r = (taken (goal.at.bounds-counts-n c).In-Ok-Some).some_room in omega arith

pub bounds-letters-n : goal.bounds-letters-n
bounds-letters-n c = let r = (taken (goal.at.bounds-letters-n c).In-Ok-Some).some_room in omega arith

pub overflow_add-n : goal.overflow_add-n
overflow_add-n c = let r = (taken (goal.at.overflow_add-n c).In-Ok-Some).some_room in omega arith

pub loop-step-smaller : goal.loop-step-smaller
loop-step-smaller c = let m = moved (goal.at.loop-step-smaller c).In-Ok-Some in omega arith

pub loop-step-preserved : goal.loop-step-preserved
loop-step-preserved c =
    let l = c.loop-step in
    let t = taken (goal.at.loop-step-preserved c).In-Ok-Some in
    let count = c.in-Ok-Some.step.count in
    let few : count ≤ most_count = small (goal.at.loop-step-preserved c).In-Ok-Some in
    let kept : to_z w32 (of_z w32 c.signed-number.result) ≡ pos count = ap (λ (z : ℤ). to_z w32 (of_z w32 z)) c.signed-number.ensures ∙ to_z_pos w32 count (omega arith) in
    let fewer : most_segments - (l.n + 1) ≡ most_segments - l.n - 1 = omega arith in
    rw (kept, fewer)
    ((moved (goal.at.loop-step-preserved c).In-Ok-Some).1, tables_set l.n (pos count) _ l.invariant.1, t.answered, fill_one (subst (Filled _ _ _ _ l.n) t.is l.invariant.3))

pub returns-in-Ok-None : goal.returns-in-Ok-None
returns-in-Ok-None c =
    let l = c.loop-step in
    fill_none (subst (Filled _ _ _ _ l.n) (all_taken _ _ l.at l.invariant.2 (sym c.step_at.ensures ∙ c.in-Ok-None.is ∙ ap Ok c.in-Ok-None.field-0-is)) l.invariant.3)

pub returns-in-Err : goal.returns-in-Err
returns-in-Err c =
    let l = c.loop-step in
    absurd (none_refused _ _ l.at l.invariant.2 (sym c.step_at.ensures ∙ c.in-Err.is))
