-- `playback::differing::measure` meets its contract. The loop's invariant: the total and the size are those of the entries passed.
-- Assumes nothing.
use mathlib.Core.Path.{◌≡◌, sym, ap, ◌∙◌}
use mathlib.Core.Bool.{Bool}
use native.Mathlib.Omega.{arith}
use lib.ListN.{length}
use Rattle.holding.specs.Holding.{Lent, lent}
use Rattle.layout.specs.Layout.{star_of}
use Rattle.playback.specs.Lines.{lines_of, index_if}
use Rattle.playback.proofs.Walk.{differs_at, none_found, lines_none, total_more, size_more, one_at_most}
use Rattle.playback.proofs.differing.measure.Goals as goal
use Rattle.playback.proofs.differing.measure.Goals.{Start}

abbrev lent_at : Start → Lent
lent_at s = lent s.args.head s.args.genome.now s.args.transcript.now s.args.letters.now s.args.exons.now

pub loop-i-init : goal.loop-i-init
loop-i-init c =
    let x = lent_at (goal.at.loop-i-init c).Start in
    let log = c.args.log.now in
    (omega arith, omega arith, sym (ap length (none_found x log)), sym (ap length (lines_none x log)))

pub overflow_add-total : goal.overflow_add-total
overflow_add-total c = omega (arith, one_at_most c.differs_at-differ.result)

pub overflow_add-size : goal.overflow_add-size
overflow_add-size c = omega arith

pub loop-i-preserved : goal.loop-i-preserved
loop-i-preserved c =
    let l = c.loop-i in
    let d = c.differs_at-differ in
    let x = lent_at (goal.at.loop-i-preserved c).Start in
    let log = c.args.log.now in
    let one : c.star_number-total.result ≡ star_of (differs_at x log l.i) = c.star_number-total.ensures ∙ ap star_of d.ensures in
    let line : c.len_if-size.result ≡ length (lines_of (index_if (differs_at x log l.i) l.i)) =
    c.len_if-size.ensures.value ∙ ap (λ (b : Bool). length (lines_of (index_if b l.i))) d.ensures in (
      omega (arith, one_at_most d.result),
      omega arith,
      omega (arith, total_more x log l.i),
      omega (arith, size_more x log l.i),
    )

pub returns : goal.returns
returns c =
    let all : c.loop-i.i ≡ c.args.count = omega arith in
    record { total_value = rw all at c.loop-i.invariant.2; size_value = rw all at c.loop-i.invariant.3 }
