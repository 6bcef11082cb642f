-- A log replayed on the transcript that a card makes.
--     played_made, played_refused   by what the card makes
--     input_made_lem, input_played_lem, no_input_made, no_input_played   by where the card of an input ends
--     made_holds    what a card makes holds together, so 23 is never written
--     played_same   a log whose entries were all recorded on the transcript of a card is played as `0` and a newline
-- Assumes nothing.
use Rattle.refusals.specs.declared.Refusal.{Refusal}
use Rattle.std.specs.Prelude.{ℕ, ◌≡◌, true, List, [], ◌∷◌, drop}
use Rattle.std.proofs.Common.{ap, ◌∙◌}
use Rattle.refusals.specs.Outcome.{Ok, Err}
use Rattle.holding.specs.Holding.{holds}
use Rattle.judging.specs.Judging.{Made}
use Rattle.building.proofs.laws.Standing.{built_holds}
use Rattle.card.specs.Writing.{judge_card}
use Rattle.card.specs.laws.Taken.{card_sane}
use Rattle.journal.specs.Logs.{read_log}
use Rattle.entries.specs.declared.Entry.{Entry}
use Rattle.playback.specs.Replay.{replayed}
use Rattle.playing.specs.Played.{lent_by, played, card_end, card_to, input_made, input_played}
use Rattle.playback.proofs.laws.Replay.{AllRecorded, replayed_answered, nothing_written}

-- ---- by what the card makes

module _ (card log : List ℕ) where
  pub played_made : (m : Made) → judge_card card ≡ Ok m → played card log ≡ replayed (lent_by m) log
  unfolding played
  played_made m e = rw e

  pub played_refused : (k : Refusal) → judge_card card ≡ Err k → played card log ≡ Err k
  unfolding played
  played_refused k e = rw e

-- ---- by where the card of an input ends

module _ (s : List ℕ) where
  pub input_made_lem : (to : ℕ) → card_end s ≡ Ok to → input_made s ≡ judge_card (card_to s to)
  unfolding input_made
  input_made_lem to e = rw e

  pub input_played_lem : (to : ℕ) → card_end s ≡ Ok to → input_played s ≡ played (card_to s to) (drop to s)
  unfolding input_played
  input_played_lem to e = rw e

  pub no_input_made : (k : Refusal) → card_end s ≡ Err k → input_made s ≡ Err k
  unfolding input_made
  no_input_made k e = rw e

  pub no_input_played : (k : Refusal) → card_end s ≡ Err k → input_played s ≡ Err k
  unfolding input_played
  no_input_played k e = rw e

-- ---- the card that made the log

module _ (card : List ℕ) (m : Made) (taken : judge_card card ≡ Ok m) where
  pub made_holds : holds (lent_by m) ≡ true
  made_holds = built_holds m (card_sane card m taken)

  pub played_same : (log : List ℕ) (es : List Entry) → read_log log ≡ Ok es → AllRecorded (lent_by m) es → played card log ≡ Ok (48 ∷ 10 ∷ [])
  played_same log es read recorded =
      played_made card log m taken
      ∙ replayed_answered (lent_by m) log made_holds es read
      ∙ ap Ok (nothing_written (lent_by m) recorded)
