-- A log that was made on what is lent: one question after the other was asked and put behind the bytes in use. Assumes nothing.
use Rattle.std.specs.Prelude.{ℕ, ◌+◌, List, [], ◌∷◌, ◌++◌, map, ◌≡◌, length}
use Rattle.refusals.specs.Outcome.{Ok}
use Rattle.fields.specs.laws.RoundTrips.{Bytes}
use Rattle.holding.specs.Holding.{Lent}
use Rattle.taking.specs.declared.question.Question.{Question}
use Rattle.entries.specs.Entries.{QuestionFits}
use Rattle.journal.specs.Logs.{log_after}
use Rattle.entries.specs.declared.Entry.{Entry}
use Rattle.asking.specs.Asking.{recorded, recording}

-- the entries of questions
abbrev pub all_recorded : Lent → List Question → List Entry
all_recorded x qs = map (recorded x) qs

-- these lent bytes, of which so many are in use, after these questions. Lent bytes are bytes, and a question's numbers have 32 bits, as the machine has them
pub data Made (x : Lent) : List ℕ → ℕ → List Question → Type 0 where
  none_yet : {s : List ℕ} → Made x s 0 []
  one_more : {s : List ℕ} {used : ℕ} {qs : List Question} {q : Question} {text : List ℕ}
      → Made x s used qs → Bytes s → QuestionFits q → recording x q s used ≡ Ok text → Made x (log_after s used (Ok text)) (used + length text) (qs ++ q ∷ [])
