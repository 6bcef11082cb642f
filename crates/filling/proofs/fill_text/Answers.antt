-- `filling::fill_text` meets its contract: the tables with what is left put in stay those promised: a turn puts in the first of what is left, or on strand -1 the last (`fill_turn`). Assumes nothing.
use Prim.Native.Nat.{ℕ, ◌+◌, ◌-◌, ◌≤◌, ◌<◌}
use mathlib.Core.Path.{◌≡◌, sym, ap, subst, ◌∙◌}
use native.Mathlib.Omega.{arith}
use lib.ListN.{length, drop}
use Rattle.std.specs.Prelude.{List, Some}
use Rattle.refusals.specs.Numbers.{most_segments}
use Rattle.refusals.specs.Outcome.{Ok}
use Rattle.cigar.specs.Text.{step_at, element, read_all, elements_in}
use Rattle.cigar.specs.laws.Steps.{Moves, moves}
use Rattle.reading.specs.Tallies.{one_on, sums_on, tallied}
use Rattle.reading.specs.declared.Sums.{Sums}
use Rattle.segments.specs.Tables.{tables}
use Rattle.filling.specs.Filling.{fill, ordered, turned_on, UpTo, Before}
use Rattle.filling.proofs.Fills.{left_from, fill_turn, fill_none, left_all, long_put}
use Rattle.filling.proofs.Taken.{ends_at, Taken, take_element, take_none, take_end}
use Rattle.filling.proofs.fill_text.Goals as goal
use Rattle.filling.proofs.fill_text.Goals.{In-Ok-Some, After-turned-begin}

pub loop-step-init : goal.loop-step-init
loop-step-init c = (
  omega arith,
  c.requires.long,
  c.requires.bounded.0,
  record { count_up = omega arith; genome_up = omega arith; transcript_up = omega arith },
  c.requires.text_value,
  rw (left_all c.args.forward c.args.from),
)

-- where a step found an element
module _ (c : In-Ok-Some) where
  abbrev list : List ℕ
  list = c.args.text.now

  abbrev sums : Sums
  sums = c.loop-step.sums

  abbrev after : Sums
  after = one_on sums (element c.in-Ok-Some.step.count c.in-Ok-Some.step.letter)

  found : step_at list c.loop-step.at ≡ Ok (Some c.in-Ok-Some.step)
  found = sym c.step_at.ensures ∙ c.in-Ok-Some.is ∙ ap Ok c.in-Ok-Some.field-0-is

  moved : (c.loop-step.at < c.in-Ok-Some.step.next) × (c.in-Ok-Some.step.next ≤ length list)
  moved = subst (Moves c.loop-step.at (length list)) found (moves list c.loop-step.at c.loop-step.invariant.0)

  -- there is room for it, and what follows ends where all end
  told : tallied sums (read_all (most_segments - sums.count) (drop c.loop-step.at list)) ≡ Ok c.args.to
  told = c.loop-step.invariant.4

  taken : Taken list c.loop-step.at sums c.args.to told c.in-Ok-Some.step
  taken = take_element list c.loop-step.at sums c.args.to told c.loop-step.invariant.2.few found

  ends : c.args.to ≡ sums_on after (elements_in (read_all (most_segments - (sums.count + 1)) (drop c.in-Ok-Some.step.next list)))
  ends = ends_at after c.args.to (read_all (most_segments - (sums.count + 1)) (drop c.in-Ok-Some.step.next list)) taken.told_next

  from_sums : UpTo c.args.from sums
  from_sums = c.loop-step.invariant.3

  sums_after : Before sums after
  sums_after = record { count_below = omega arith; genome_up = omega arith; transcript_up = omega arith }

  after_to : UpTo after c.args.to
  after_to = record {
    count_up = omega (arith, ap (λ (s : Sums). s.count) ends);
    genome_up = omega (arith, ap (λ (s : Sums). s.genome) ends);
    transcript_up = omega (arith, ap (λ (s : Sums). s.transcript) ends);
  }

  from_after : UpTo c.args.from after
  from_after = record {
    count_up = omega (arith, from_sums.count_up);
    genome_up = omega (arith, from_sums.genome_up);
    transcript_up = omega (arith, from_sums.transcript_up);
  }

pub one_on-after-requires : goal.one_on-after-requires
one_on-after-requires c = (c.loop-step.invariant.2, (taken (goal.at.one_on-after-requires c).In-Ok-Some).room)

pub turned-begin-requires : goal.turned-begin-requires
turned-begin-requires c =
    let k = (goal.at.turned-begin-requires c).In-Ok-Some in
    rw c.one_on-after.ensures.0 (from_sums k, sums_after k, after_to k, c.requires.bounded.1)

pub loop-step-smaller : goal.loop-step-smaller
loop-step-smaller c = let m = moved (goal.at.loop-step-smaller c).In-Ok-Some in omega arith

pub loop-step-preserved : goal.loop-step-preserved
loop-step-preserved c =
    let k = (goal.at.loop-step-preserved c).In-Ok-Some in
    let l = c.loop-step in
    let a = c.args in
    let step = c.in-Ok-Some.step in
    let on = c.one_on-after.ensures in
    let rest = read_all (most_segments - ((sums k).count + 1)) (drop step.next (list k)) in
    let left = ap (λ es. fill (tables l.genome l.transcript l.letters) (left_from a.forward a.from (sums k)) (ordered a.forward es)) (taken k).is in
    let turn = fill_turn a.forward (tables l.genome l.transcript l.letters) a.from a.to (sums k) (element step.count step.letter) (elements_in rest) (ends k) in
    rw (c.narrow-on_genome.ensures, c.narrow-on_transcript.ensures, c.turned-begin.ensures.0, on.0) (
      (moved k).1,
      long_put (turned_on a.forward a.from a.to (sums k) (after k)) step.letter l.invariant.1,
      rw on.0 at on.1,
      from_after k,
      (taken k).told_next,
      l.invariant.5 ∙ left ∙ turn,
    )

pub returns-in-Ok-None : goal.returns-in-Ok-None
returns-in-Ok-None c =
    let l = c.loop-step in
    let a = c.args in
    let none = take_end a.text.now l.at l.sums a.to l.invariant.4 (sym c.step_at.ensures ∙ c.in-Ok-None.is ∙ ap Ok c.in-Ok-None.field-0-is) in
    sym (l.invariant.5 ∙ ap (λ es. fill (tables l.genome l.transcript l.letters) (left_from a.forward a.from l.sums) (ordered a.forward es)) none ∙ fill_none a.forward _ _)

pub returns-in-Err : goal.returns-in-Err
returns-in-Err c =
    let l = c.loop-step in
    absurd (take_none _ l.at l.sums _ l.invariant.4 (sym c.step_at.ensures ∙ c.in-Err.is))
