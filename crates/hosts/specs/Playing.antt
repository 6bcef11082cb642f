-- A day played back, as a host sees it: what `txc_record` makes of a log, and what `txc_replay` tells of one. Assumes nothing.
--     OwnLog0         over the memory that a log was made on, its replay tells 0, whatever was asked
--     ListsDiffering   an index is listed exactly where the recorded answer is not what is said now; indices rise
use Rattle.std.specs.Prelude.{ℕ, ◌<◌, ◌≤◌, true, List, [], ◌∷◌, ◌≡◌, length, get_or, take}
use Rattle.refusals.specs.Outcome.{Ok}
use Rattle.holding.specs.Holding.{Lent, holds}
use Rattle.taking.specs.declared.question.Question.{Question}
use Rattle.journal.specs.Logs.{read_log}
use Rattle.entries.specs.declared.Entry.{Entry}
use Rattle.asking.specs.Asking.{asked}
use Rattle.asking.specs.Making.{Made}
use Rattle.playback.specs.Replay.{is_listed, replay_text, replaying}
use Rattle.playback.proofs.laws.Replay.{Rising}

-- the line of the total alone
abbrev pub zero_line : List ℕ
zero_line = 48 ∷ 10 ∷ []

-- a question at least was recorded, what is lent holds together, and the buffer has room for the line
abbrev pub OwnLog0 : Type 0
OwnLog0 = (x : Lent) (s : List ℕ) (used : ℕ) (qs : List Question) (room : ℕ) → Made x s used qs → 0 < used → holds x ≡ true → length zero_line ≤ room → replaying x (take used s) room ≡ Ok zero_line

-- of a log of these entries these indices are listed
pub record Lists (x : Lent) (es : List Entry) (indices : List ℕ) : Type 0 where
  pub listed : (k : ℕ) (d : Entry) → k < length es → is_listed k indices ≡ true → (get_or es k d).answer ≡ asked x (get_or es k d).question → ⊥
  pub not_listed : (k : ℕ) (d : Entry) → k < length es → ((get_or es k d).answer ≡ asked x (get_or es k d).question → ⊥) → is_listed k indices ≡ true
  pub rising : Rising 0 (length es) indices

-- where there is a text, the bytes are a log, and the text lists what differs
abbrev pub ListsDiffering : Type 0
ListsDiffering = (x : Lent) (log : List ℕ) (room : ℕ) (text : List ℕ) → replaying x log room ≡ Ok text
    → (es : List Entry) × (indices : List ℕ) × (read_log log ≡ Ok es) × Lists x es indices × (text ≡ replay_text indices)
