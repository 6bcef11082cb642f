-- `worklist::answer_list` meets its contract: where nothing speaks against it the list is walked, and the walk answers what the definition says; else it is refused as a whole, and no slot is written. Assumes nothing.
use Rattle.std.proofs.Common.{◌≡◌, sym, ap, ◌∙◌}
use Rattle.std.specs.Prelude.{true, List}
use Rattle.refusals.specs.Outcome.{Err}
use Rattle.holding.specs.Holding.{Lent, lent, of_records, holds}
use Rattle.holding.specs.laws.Held.{together, some as some_segment, few, held_segments}
use Rattle.knowing.specs.Knowing.{alignment_of}
use Rattle.worklist.specs.declared.Slot.{Slot}
use Rattle.worklist.specs.Worklist.{positions_of, never_falls, steps_laid}
use Rattle.worklist.specs.Walking.{along}
use Rattle.worklist.proofs.Judging.{go_means, walked_steps, walked_slots, refused_steps, refused_slots}
use Rattle.worklist.proofs.answer_list.Goals as goal
use Rattle.worklist.proofs.answer_list.Goals.{In-Ok}

-- where nothing speaks against it, it holds together, has records and lies so, and the list never falls
may : (c : In-Ok) → let x = lent c.args.head c.args.genome.now c.args.transcript.now c.args.letters.now c.args.exons.now in (holds x ≡ true) × (of_records x.head ≡ true) × (c.never_falls-rises.result ≡ true) × (alignment_of x.head ≡ c.in-Ok.at)
may c = go_means _ c.never_falls-rises.result _ (sym c.along.ensures ∙ c.in-Ok.is)

pub fill-requires : goal.fill-requires
fill-requires c =
    let a = c.args in
    let x : Lent = lent a.head a.genome.now a.transcript.now a.letters.now a.exons.now in
    let go = may (goal.at.fill-requires c).In-Ok in
    let w = together x go.0 go.1 in
    rw (← go.3) (record { count_from = some_segment x w; count_to = few x w; segments = held_segments x w }, sym c.never_falls-rises.ensures ∙ go.2)

pub returns-in-Ok : goal.returns-in-Ok
returns-in-Ok c =
    let a = c.args in
    let x : Lent = lent a.head a.genome.now a.transcript.now a.letters.now a.exons.now in
    let go = may (goal.at.returns-in-Ok c).In-Ok in
    let sorted : never_falls (positions_of a.slots.now) ≡ true = sym c.never_falls-rises.ensures ∙ go.2 in
    let filled = rw (← go.3) at c.fill.ensures in
    (filled.0 ∙ ap steps_laid (sym (walked_steps x go.0 go.1 a.slots.now sorted)), filled.1 ∙ sym (walked_slots x go.0 go.1 a.slots.now sorted))

pub returns-in-Err : goal.returns-in-Err
returns-in-Err c =
    let a = c.args in
    let x : Lent = lent a.head a.genome.now a.transcript.now a.letters.now a.exons.now in
    let ys : List Slot = a.slots.now in
    let e : along x (never_falls (positions_of ys)) ≡ Err c.in-Err.k = sym (c.along.ensures ∙ ap (along x) c.never_falls-rises.ensures) ∙ c.in-Err.is in
    (c.refused.ensures ∙ ap steps_laid (sym (refused_steps x ys e)), sym (refused_slots x ys e))
