-- `playback::differing::put_lines` meets its contract. The loop's invariant: the lines of the entries passed are put.
-- Assumes nothing.
use mathlib.Core.Path.{◌≡◌, sym, ap}
use mathlib.Core.Bool.{Bool}
use Prim.Native.Nat.{◌+◌}
use native.Mathlib.Omega.{arith}
use lib.ListN.{length}
use Rattle.holding.specs.Holding.{Lent, lent}
use Rattle.card.specs.laws.Putting.{none_put, then_put, put_length, put_as}
use Rattle.playback.specs.Lines.{lines_of, index_if}
use Rattle.playback.proofs.Walk.{differs_at, lines_none, lines_more, size_more, lines_front}
use Rattle.playback.proofs.differing.put_lines.Goals as goal
use Rattle.playback.proofs.differing.put_lines.Goals.{Start}

abbrev lent_at : Start → Lent
lent_at s = lent s.args.head s.args.genome.now s.args.transcript.now s.args.letters.now s.args.exons.now

pub loop-index-init : goal.loop-index-init
loop-index-init c = put_as (sym (lines_none (lent_at (goal.at.loop-index-init c).Start) c.args.log.now)) (none_put c.args.buffer.now 0)

-- of the lines of all there is room for those of the entries passed and the next
pub put_if-end-requires : goal.put_if-end-requires
put_if-end-requires c =
    let l = c.loop-index in
    let x = lent_at (goal.at.put_if-end-requires c).Start in
    let log = c.args.log.now in
    let line : length (lines_of (index_if c.differs_at-differ.result l.index)) ≡ length (lines_of (index_if (differs_at x log l.index) l.index)) =
    ap (λ (b : Bool). length (lines_of (index_if b l.index))) c.differs_at-differ.ensures in
    omega (arith, put_length l.invariant, l.invariant.past, size_more x log l.index, lines_front x log (l.index + 1) c.args.count (omega arith), c.requires.entries_at_in_bounds)

pub loop-index-preserved : goal.loop-index-preserved
loop-index-preserved c =
    let l = c.loop-index in
    let x = lent_at (goal.at.loop-index-preserved c).Start in
    let lines = ap (λ (b : Bool). lines_of (index_if b l.index)) c.differs_at-differ.ensures in
    put_as (sym (lines_more x c.args.log.now l.index)) (then_put l.invariant (put_as lines c.put_if-end.ensures))

pub returns : goal.returns
returns c = let all : c.loop-index.index ≡ c.args.count = omega arith in rw all at c.loop-index.invariant
