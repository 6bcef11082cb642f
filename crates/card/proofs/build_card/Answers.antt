-- What the card reads as is handed to building, and the bytes behind its numbers are the whole rest of the card. Assumes nothing.
use mathlib.Core.Path.{◌≡◌, sym, ap, ◌∙◌}
use mathlib.Core.List.{List}
use Prim.Native.Nat.{ℕ, ◌-◌, ◌≤◌}
use native.Mathlib.Omega.{arith}
use lib.ListN.{length, take, drop, length-drop}
use lib.Seq.{take_all}
use Rattle.refusals.specs.Outcome.{Outcome, Ok}
use Rattle.judging.specs.Judging.{Made, judge}
use Rattle.segments.specs.Tables.{tables}
use Rattle.building.specs.Afterwards.{built_answer, tables_after, exons_after}
use Rattle.card.specs.Layout.{records_at}
use Rattle.card.specs.Card.{read_card}
use Rattle.card.specs.Writing.{judge_read, judge_card}
use Rattle.card.specs.laws.RoundTrips.{read_means}
use Rattle.card.proofs.build_card.Goals as goal
use Rattle.card.proofs.build_card.Goals.{In_ok-n}

-- the numbers that were read
module _ (c : In_ok-n) where
  abbrev bytes : List ℕ
  bytes = c.args.card.now

  read_is : read_card bytes ≡ Ok c.in_ok-n.n
  read_is = sym c.read_card.ensures ∙ c.in_ok-n.was

  long : records_at ≤ length bytes
  long = (read_means bytes c.in_ok-n.n read_is).0.long

  -- what is handed to building is what the card says
  handed : judge c.in_ok-n.n (take (length bytes - records_at) (drop records_at bytes)) ≡ judge_card bytes
  handed =
      ap (judge c.in_ok-n.n) (take_all (length bytes - records_at) (drop records_at bytes) (omega (arith, length-drop records_at bytes)))
      ∙ sym (ap (judge_read bytes) read_is)

pub slice_bounds-build-count : goal.slice_bounds-build-count
slice_bounds-build-count c = long c

pub slice_bounds-build-start : goal.slice_bounds-build-start
slice_bounds-build-start c = long c

pub returns : goal.returns
returns c =
    let here = (goal.at.returns c).In_ok-n in
    let a = c.args in
    let was = tables a.genome.now a.transcript.now a.letters.now in
    let b = c.build.ensures in record { value = b.value ∙ ap built_answer (handed here); letters_after = b.letters_after ∙ ap (λ (j : Outcome Made). tables_after j was) (handed here); exons_after = b.exons_after ∙ ap (λ (j : Outcome Made). exons_after j a.exons.now) (handed here) }
