-- `playback::differing::differs_at` meets its contract: what is said now is compared with what is recorded.
-- Assumes nothing.
use mathlib.Core.Path.{◌≡◌, ap, ap₂, ◌∙◌}
use mathlib.Core.Bool.{not}
use Rattle.holding.specs.Holding.{lent}
use Rattle.entries.specs.Entries.{entry_at}
use Rattle.entries.specs.declared.Entry.{Entry}
use Rattle.asking.specs.Asking.{asked}
use Rattle.playback.specs.Replay.{same_answer, differs}
use Rattle.playback.proofs.differing.differs_at.Goals as goal
use Rattle.playback.proofs.differing.differs_at.Goals.{After-is_same}

-- what was compared
module _ (c : After-is_same) where
  compared : not c.is_same.result ≡ differs (lent c.args.head c.args.genome.now c.args.transcript.now c.args.letters.now c.args.exons.now) (entry_at c.args.log.now c.args.at)
  unfolding differs
  compared =
      let entry = c.entry_at-entry.ensures in
      ap not
      (c.is_same.ensures
      ∙ ap₂ same_answer
      (ap (λ (e : Entry). e.answer) entry)
      (c.ask-said.ensures
      ∙ ap (λ (e : Entry). asked (lent c.args.head c.args.genome.now c.args.transcript.now c.args.letters.now c.args.exons.now) e.question) entry))

pub returns : goal.returns
returns c = compared (goal.at.returns c).After-is_same
