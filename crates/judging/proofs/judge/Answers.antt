-- `judging::judge` meets its contract: 23 and 21 are tested in the order of `judge`, and that `are_records` says yes is what `judge_input` asks for. Assumes nothing.
use mathlib.Core.Path.{sym, ◌∙◌}
use borrow.Author.Tests.{lt-ltb, le-ltb}
use Rattle.transcript.specs.Heads.{both_bits}
use Rattle.judging.specs.Judging.{judge}
use Rattle.judging.proofs.judge.Goals as goal

pub returns-then-numbers-gt-BOTH_BITS : goal.returns-then-numbers-gt-BOTH_BITS
unfolding judge
returns-then-numbers-gt-BOTH_BITS c =
    (rw (lt-ltb both_bits c.args.numbers.cds c.if-numbers-gt-BOTH_BITS.true), tt)

pub judge_input-requires : goal.judge_input-requires
judge_input-requires c = sym c.are_records.ensures ∙ c.if-are_records.true

pub returns-then-are_records : goal.returns-then-are_records
unfolding judge
returns-then-are_records c =
    let known = le-ltb both_bits c.args.numbers.cds c.if-numbers-gt-BOTH_BITS.false in
    let exact = sym c.are_records.ensures ∙ c.if-are_records.true in
    (rw (known, exact) c.judge_input.ensures.0, c.judge_input.ensures.1)

pub returns : goal.returns
unfolding judge
returns c =
    let known = le-ltb both_bits c.args.numbers.cds c.if-numbers-gt-BOTH_BITS.false in
    let exact = sym c.are_records.ensures ∙ c.if-are_records.false in
    (rw (known, exact), tt)
