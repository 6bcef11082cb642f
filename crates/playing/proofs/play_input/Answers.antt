-- `playing::play_input` meets its contract: the two parts of the input are played, or the line of a refusal is put.
-- Assumes nothing.
use mathlib.Core.Path.{◌≡◌, sym, ap, ◌∙◌}
use mathlib.Core.List.{List}
use Prim.Native.Nat.{ℕ, ◌-◌}
use native.Mathlib.Omega.{arith}
use lib.ListN.{length, take, drop, length-drop}
use lib.Seq.{take_all}
use Rattle.refusals.specs.Outcome.{Outcome}
use Rattle.cigar.specs.Lent.{at_front}
use Rattle.segments.specs.Tables.{tables}
use Rattle.judging.specs.Judging.{Made}
use Rattle.building.specs.Afterwards.{tables_after, exons_after}
use Rattle.card.specs.laws.Putting.{put_as, put_front}
use Rattle.playing.specs.Played.{played, played_text, card_to, input_played}
use Rattle.playing.specs.laws.Played.{input_made_lem, input_played_lem, no_input_made, no_input_played}
use Rattle.playing.proofs.CardEnds.{Ends, ends}
use Rattle.playing.proofs.play_input.Goals as goal
use Rattle.playing.proofs.play_input.Goals.{In-Ok}

-- the card is there
module _ (c : In-Ok) where
  abbrev input : List ℕ
  input = c.args.input.now

  abbrev to : ℕ
  to = c.in-Ok.to

  there : Ends input to
  there = ends input to (sym c.card_end.ensures ∙ c.in-Ok.is)

  played_is : played (card_to input to) (take (length input - to) (drop to input)) ≡ input_played input
  played_is =
      ap (played (card_to input to)) (take_all (length input - to) (drop to input) (omega (arith, length-drop to input)))
      ∙ sym (input_played_lem input to there.outcome)

pub slice_bounds-play-count : goal.slice_bounds-play-count
slice_bounds-play-count c =
    let here = (goal.at.slice_bounds-play-count c).In-Ok in
    omega (arith, (there here).after, (there here).within)

pub slice_bounds-play-start : goal.slice_bounds-play-start
slice_bounds-play-start c =
    let here = (goal.at.slice_bounds-play-start c).In-Ok in
    omega (arith, (there here).after, (there here).within)

pub slice_bounds-play-end : goal.slice_bounds-play-end
slice_bounds-play-end c =
    let here = (goal.at.slice_bounds-play-end c).In-Ok in
    omega (arith, (there here).after, (there here).within)

pub slice_bounds-play-count-in-Ok : goal.slice_bounds-play-count-in-Ok
slice_bounds-play-count-in-Ok c =
    let here = (goal.at.slice_bounds-play-count-in-Ok c).In-Ok in
    omega (arith, (there here).after, (there here).within)

pub slice_bounds-play-start-in-Ok : goal.slice_bounds-play-start-in-Ok
slice_bounds-play-start-in-Ok c =
    let here = (goal.at.slice_bounds-play-start-in-Ok c).In-Ok in
    omega (arith, (there here).after, (there here).within)

pub returns-in-Ok : goal.returns-in-Ok
returns-in-Ok c =
    let here = (goal.at.returns-in-Ok c).In-Ok in
    let a = c.args in
    let e = c.play.ensures in
    let made = sym (input_made_lem (input here) (to here) (there here).outcome) in record { value = e.value ∙ ap (λ (o : Outcome (List ℕ)). length (played_text o)) (played_is here); within = e.within; text_after = e.text_after ∙ ap (λ (o : Outcome (List ℕ)). at_front (played_text o) a.text.now) (played_is here); letters_after = e.letters_after ∙ ap (λ (j : Outcome Made). tables_after j (tables a.genome.now a.transcript.now a.letters.now)) made; exons_after = e.exons_after ∙ ap (λ (j : Outcome Made). exons_after j a.exons.now) made }

pub returns-in-Err : goal.returns-in-Err
returns-in-Err c =
    let a = c.args in
    let k = c.in-Err in
    let p = c.put_refusal.ensures in
    let o = sym c.card_end.ensures ∙ k.is in
    let made = no_input_made a.input.now k.k o in
    let w = put_front (put_as (sym (ap played_text (no_input_played a.input.now k.k o))) p.put) (omega (arith, p.within, c.requires)) in record { value = w.0; within = omega (arith, p.within); text_after = w.1; letters_after = sym (ap (λ (j : Outcome Made). tables_after j (tables a.genome.now a.transcript.now a.letters.now)) made); exons_after = sym (ap (λ (j : Outcome Made). exons_after j a.exons.now) made) }
