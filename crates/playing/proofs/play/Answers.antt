-- `playing::play` meets its contract: what building left is what the card made, for which the buffer has room; a refusal's line is put into the buffer that is as it was.
-- Assumes nothing.
use mathlib.Core.Path.{◌≡◌, sym, ap, ◌∙◌}
use mathlib.Core.List.{List}
use Prim.Native.Nat.{ℕ}
use native.Mathlib.Omega.{arith}
use lib.ListN.{length}
use Rattle.refusals.specs.Numbers.{number}
use Rattle.refusals.specs.Outcome.{Outcome}
use Rattle.cigar.specs.Lent.{at_front}
use Rattle.spelling.specs.Write.{written_answer, buffer_after}
use Rattle.segments.specs.Tables.{tables}
use Rattle.transcript.specs.declared.Head.{Head}
use Rattle.holding.specs.Holding.{Lent, lent}
use Rattle.building.proofs.laws.Standing.{Makes, makes, refuses}
use Rattle.card.specs.Putting.{Put}
use Rattle.card.specs.Writing.{judge_card}
use Rattle.card.specs.laws.Putting.{put_as, put_front}
use Rattle.lines.specs.Listing.{refusal_text}
use Rattle.playback.specs.Replay.{replaying}
use Rattle.playing.specs.Played.{lent_by, played, played_text}
use Rattle.playback.proofs.laws.Replay.{replayed_short, replay_roomy}
use Rattle.playing.specs.laws.Played.{played_made, played_refused}
use Rattle.playing.proofs.Written.{text_is, refused_is, lent_made}
use Rattle.playing.proofs.play.Goals as goal
use Rattle.playing.proofs.play.Tie as tie
use Rattle.playing.proofs.play.Lts as lts

abbrev entry : lts.After-build_card tie.the-claims tie.handed_pre tie.handed_post tie.handed_clauses → lts.Start tie.the-claims tie.handed_pre tie.handed_post tie.handed_clauses
entry c = c.before.before.before.before.before.before.before.before

-- what building has made
module _ (c : lts.Past-After-known_told tie.the-claims tie.handed_pre tie.handed_post tie.handed_clauses) where
  abbrev call : lts.After-build_card tie.the-claims tie.handed_pre tie.handed_post tie.handed_clauses
  call = c.before

  abbrev card : List ℕ
  card = (entry call).args.card.now

  abbrev log : List ℕ
  log = (entry call).args.log.now

  abbrev text : List ℕ
  text = (entry call).args.text.now

  abbrev head : Head
  head = c.in-Ok.head

  makes_head : Makes (judge_card card) head
  makes_head = makes (judge_card card) head (sym call.build_card.ensures.value ∙ c.in-Ok.is)

  abbrev left : Lent
  left = lent head call.build_card.new.genome call.build_card.new.transcript call.build_card.new.letters call.build_card.new.exons

  left_is : left ≡ lent_by makes_head.made
  left_is =
      let a = (entry call).args in
      lent_made makes_head (tables a.genome.now a.transcript.now a.letters.now) a.exons.now call.build_card.ensures.letters_after call.build_card.ensures.exons_after

  played_is : replaying left log (length text) ≡ played card log
  played_is =
      ap (λ (x : Lent). replaying x log (length text)) left_is
      ∙ replay_roomy (lent_by makes_head.made) log (length text) (entry call).requires
      ∙ sym (played_made card log makes_head.made makes_head.judged)

pub returns-in-Ok-replay : goal.returns-in-Ok-replay
returns-in-Ok-replay c =
    let h = c.before.before.before.before.before.before in
    let r = c.replay.ensures in
    let n = c.in-Ok-replay in
    let t = text_is (played (card h) (log h)) n.n (sym (ap written_answer (played_is h)) ∙ sym r.value ∙ n.is) in
    let short = replayed_short (lent_by (makes_head h).made) (log h) t.text (sym (played_made (card h) (log h) (makes_head h).made (makes_head h).judged) ∙ t.outcome) in record {
      value = t.size ∙ sym (ap (λ (o : Outcome (List ℕ)). length (played_text o)) t.outcome);
      within = omega (arith, t.size);
      text_after = r.buffer_after
          ∙ ap (buffer_after (text h)) (played_is h ∙ t.outcome)
          ∙ sym (ap (λ (o : Outcome (List ℕ)). at_front (played_text o) (text h)) t.outcome);
      letters_after = (call h).build_card.ensures.letters_after;
      exons_after = (call h).build_card.ensures.exons_after;
    }

pub returns-in-Err-replay : goal.returns-in-Err-replay
returns-in-Err-replay c =
    let h = c.before.before.before.before.before.before.before.before.before.before in
    let r = c.replay.ensures in
    let k = c.in-Err-replay in
    let p = c.put_refusal.ensures in
    let o = refused_is (played (card h) (log h)) k.k (sym (ap written_answer (played_is h)) ∙ sym r.value ∙ k.is) in
    let kept = r.buffer_after ∙ ap (buffer_after (text h)) (played_is h ∙ o) in
    let put : Put (text h) c.put_refusal.new.buffer 0 c.put_refusal.result (refusal_text (number k.k)) = rw kept at p.put in
    let w = put_front (put_as (sym (ap played_text o)) put) (omega (arith, p.within, (entry (call h)).requires)) in
    record { value = w.0; within = omega (arith, p.within); text_after = w.1; letters_after = (call h).build_card.ensures.letters_after; exons_after = (call h).build_card.ensures.exons_after }

pub returns-in-Err : goal.returns-in-Err
returns-in-Err c =
    let b = c.before.before.before.before.before.before in
    let a = (entry b).args in
    let k = c.in-Err in
    let p = c.put_refusal-in-Err.ensures in
    let o = played_refused a.card.now a.log.now k.k (refuses (judge_card a.card.now) k.k (sym b.build_card.ensures.value ∙ k.is)) in
    let w = put_front (put_as (sym (ap played_text o)) p.put) (omega (arith, p.within, (entry b).requires)) in
    record { value = w.0; within = omega (arith, p.within); text_after = w.1; letters_after = b.build_card.ensures.letters_after; exons_after = b.build_card.ensures.exons_after }
