-- `playback::differing::list` meets its contract: the text is measured before a byte is stored; then the lines are put, and the total's behind them.
-- Assumes nothing.
use mathlib.Core.Path.{◌≡◌, refl, ap}
use mathlib.Core.List.{List}
use Prim.Native.Nat.{ℕ, ◌+◌, ◌≤◌, ◌<◌}
use native.Mathlib.Omega.{arith}
use borrow.Author.Tests.{lt-ltb, le-ltb}
use lib.ListN.{length}
use Rattle.refusals.specs.Outcome.{Ok}
use Rattle.holding.specs.Holding.{lent}
use Rattle.card.specs.Putting.{Put}
use Rattle.card.specs.laws.Putting.{then_put, put_length, put_as, put_front}
use Rattle.journal.specs.laws.LogTrips.{from_length}
use Rattle.journal.specs.Layout.{entries_at}
use Rattle.playback.specs.Lines.{line_of, most_replay}
use Rattle.playback.specs.Replay.{replay_text}
use Rattle.playback.proofs.laws.Replay.{text_length, replay_short}
use Rattle.playback.proofs.Walk.{found}
use Rattle.playback.proofs.differing.list.Goals as goal
use Rattle.playback.proofs.differing.list.Goals.{After-line_len}

-- what was measured
module _ (c : After-line_len) where
  abbrev indices : List ℕ
  indices = found (lent c.args.head c.args.genome.now c.args.transcript.now c.args.letters.now c.args.exons.now) c.args.log.now c.args.count

  total_is : c.measure-lines.result.total ≡ length indices
  total_is = c.measure-lines.ensures.total_value

  size_is : c.measure-lines.result.size + c.line_len.result ≡ length (replay_text indices)
  size_is =
      omega (arith, c.measure-lines.ensures.size_value, c.line_len.ensures.value, ap (λ (n : ℕ). length (line_of n)) total_is, text_length indices)

  short : length (replay_text indices) ≤ most_replay
  short = replay_short _ _ (omega (arith, from_length c.args.count c.args.log.now entries_at))

pub overflow_add-size : goal.overflow_add-size
overflow_add-size c = let m = (goal.at.overflow_add-size c).After-line_len in omega (arith, size_is m, short m)

pub returns-then-buffer-size : goal.returns-then-buffer-size
returns-then-buffer-size c =
    let m = (goal.at.returns-then-buffer-size c).After-line_len in
    let long : length c.args.buffer.now < length (replay_text (indices m)) = omega (arith, size_is m) in
    rw (lt-ltb _ _ long) record { value = refl; buffer_after = refl }

pub put_lines-end-requires : goal.put_lines-end-requires
put_lines-end-requires c =
    let m = (goal.at.put_lines-end-requires c).After-line_len in
    record { count_le_most_entries = c.requires; entries_at_in_bounds = omega (arith, size_is m, text_length (indices m)) }

pub put_line-requires : goal.put_line-requires
put_line-requires c =
    let m = (goal.at.put_line-requires c).After-line_len in
    let p = c.put_lines-end.ensures in
    omega (arith, put_length p, p.past, size_is m, text_length (indices m), ap (λ (n : ℕ). length (line_of n)) (total_is m))

pub returns : goal.returns
unfolding replay_text
returns c =
    let m = (goal.at.returns c).After-line_len in
    let whole : Put c.args.buffer.now c.put_line.new.buffer 0 c.put_line.result (replay_text (indices m)) = then_put c.put_lines-end.ensures (put_as (ap line_of (total_is m)) c.put_line.ensures) in
    let fits : length (replay_text (indices m)) ≤ length c.args.buffer.now = omega (arith, size_is m) in
    rw (le-ltb _ _ fits) record { value = ap Ok (size_is m); buffer_after = (put_front whole (omega (arith, whole.past))).1 }
