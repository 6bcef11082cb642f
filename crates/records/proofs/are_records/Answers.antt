-- `records::are_records` meets its contract. The loop keeps that the whole is right just where the rest is. Assumes nothing.
use mathlib.Core.Path.{◌≡◌, sym, ◌∙◌}
use Prim.Native.Nat.{◌+◌, ◌-◌}
use native.Mathlib.Omega.{arith}
use Rattle.records.specs.laws.Walk.{no_numbers, no_text, one_more, all_walked}
use Rattle.records.proofs.are_records.Goals as goal

pub returns-then-s-at-lt-CIGAR_TEXT : goal.returns-then-s-at-lt-CIGAR_TEXT
returns-then-s-at-lt-CIGAR_TEXT c =
    let l = c.loop in
    sym (l.invariant.1 ∙ no_numbers (c.args.count - l.counter) _ l.at (omega arith) (omega arith))

pub returns-then-s-at : goal.returns-then-s-at
returns-then-s-at c =
    let l = c.loop in
    sym (l.invariant.1 ∙ no_text (c.args.count - l.counter) _ l.at (omega arith) (omega arith) (omega arith))

pub loop-preserved : goal.loop-preserved
loop-preserved c =
    let l = c.loop in
    let fewer : c.args.count - (l.counter + 1) ≡ c.args.count - l.counter - 1 = omega arith in
    (omega arith, rw (c.next_at-at.ensures, fewer) (l.invariant.1 ∙ one_more (c.args.count - l.counter) _ l.at (omega arith) (omega arith) (omega arith)))

pub returns : goal.returns
returns c = let l = c.loop in sym (l.invariant.1 ∙ all_walked _ l.at (c.args.count - l.counter) (omega arith))
