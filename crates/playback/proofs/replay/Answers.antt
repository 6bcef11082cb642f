-- `playback::replay` meets its contract: 23, then what the log is refused for, then the text and its 20.
-- Assumes nothing.
use mathlib.Core.Path.{◌≡◌, refl, sym, ap, ◌∙◌}
use mathlib.Core.Bool.{true}
use lib.ListN.{length}
use Rattle.std.proofs.lemmas.Result.{err_from_is_err_and}
use Rattle.spelling.specs.Write.{written_answer, buffer_after}
use Rattle.holding.specs.Holding.{Lent, lent, holds}
use Rattle.journal.specs.Layout.{entries_at}
use Rattle.journal.specs.Logs.{entries_from}
use Rattle.playback.proofs.laws.Replay.{replay_broken, replay_answered, replay_refused}
use Rattle.playback.proofs.Reading.{reads, refuses}
use Rattle.playback.proofs.replay.Goals as goal
use Rattle.playback.proofs.replay.Goals.{Start, Else-not-is_held}

abbrev lent_at : Start → Lent
lent_at s = lent s.args.head s.args.genome.now s.args.transcript.now s.args.letters.now s.args.exons.now

held : (c : Else-not-is_held) → holds (lent c.args.head c.args.genome.now c.args.transcript.now c.args.letters.now c.args.exons.now) ≡ true
held c = sym c.is_held.ensures ∙ c.if-not-is_held.false

pub returns-then-not-is_held : goal.returns-then-not-is_held
returns-then-not-is_held c =
    let x = lent_at (goal.at.returns-then-not-is_held c).Start in
    rw (replay_broken x c.args.log.now (length c.args.buffer.now) (sym c.is_held.ensures ∙ c.if-not-is_held.true)) record { value = refl; buffer_after = refl }

pub list-requires : goal.list-requires
list-requires c =
    let known = reads c.args.log.now c.in_ok-count.count (sym c.read_log.ensures ∙ c.in_ok-count.was) in
    (known.few, known.within)

pub returns : goal.returns
returns c =
    let a = c.args in
    let log = a.log.now in
    let x = lent_at (goal.at.returns c).Start in
    let known = reads log c.in_ok-count.count (sym c.read_log.ensures ∙ c.in_ok-count.was) in
    let e = c.list.ensures in
    let same = replay_answered x log (held (goal.at.returns c).Else-not-is_held) (length a.buffer.now) (entries_from c.in_ok-count.count log entries_at) known.read in
    record { value = e.value ∙ sym (ap written_answer same); buffer_after = e.buffer_after ∙ sym (ap (buffer_after a.buffer.now) same) }

pub returns-in_err-count : goal.returns-in_err-count
returns-in_err-count c =
    let a = c.args in
    let log = a.log.now in
    let x = lent_at (goal.at.returns-in_err-count c).Start in
    let p = err_from_is_err_and c.from_residual.result c.from_residual.ensures.1 in
    let said = refuses log _ (sym c.read_log.ensures ∙ c.in_err-count.was) in
    rw (p.1, p.2, replay_refused x log (held (goal.at.returns-in_err-count c).Else-not-is_held) (length a.buffer.now) _ said) record { value = refl; buffer_after = refl }
