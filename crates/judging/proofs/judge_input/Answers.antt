-- The tests go the way of the definition, and what is left is `judge_on`'s. Assumes nothing.
use mathlib.Core.Bool.{false}
use mathlib.Core.Path.{◌≡◌, sym, ◌∙◌}
use native.Mathlib.Omega.{arith}
use lib.Dec.{eqb}
use lib.IntN.{pos, negsuc}
use lib.ListN.{length}
use mir.Syntax.{w32}
use mir.Val.{SFits}
use borrow.Author.Tests.{eq-eqb, ne_eqb}
use Rattle.records.specs.laws.Walk.{records_length}
use Rattle.judging.specs.Input.{Input, input_of}
use Rattle.judging.specs.Judging.{judge_input}
use Rattle.whole.specs.laws.Machine.{same_32, other_32}
use Rattle.judging.proofs.judge_input.Goals as goal
use Rattle.judging.proofs.judge_input.Tie as tie
use Rattle.judging.proofs.judge_input.Lts as lts

-- the two strands fit an `i32`
one : SFits w32 (pos 1)
one = omega arith

minus_one : SFits w32 (negsuc 0)
minus_one = omega arith

abbrev input : lts.Start tie.the-claims tie.handed_pre tie.handed_post → Input
input s = input_of s.args.numbers s.args.s.now

many : (s : lts.Start tie.the-claims tie.handed_pre tie.handed_post) → length (input s).records ≡ s.args.numbers.count
many s = records_length s.args.numbers.count s.args.s.now 0

pub returns-then-numbers-eq0 : goal.returns-then-numbers-eq0
unfolding judge_input
returns-then-numbers-eq0 c =
    let s = c.before.before.before.before in
    (rw (eq-eqb (length (input s).records) 0 (many s ∙ c.if-numbers-eq0.true)), tt)

-- past the tests of the count, the strand decides
module _ (c : lts.After-struct_told tie.the-claims tie.handed_pre tie.handed_post) where
  abbrev here : lts.Start tie.the-claims tie.handed_pre tie.handed_post
  here = c.before.before.before.before

  some : eqb (length (input here).records) 0 ≡ false
  some = ne_eqb (length (input here).records) 0 (λ e. c.if-numbers-eq0.false (sym (many here) ∙ e))

  strand_fits : SFits w32 here.args.numbers.strand
  strand_fits = record { sfits = c.struct_told-1.given.0.1 }

pub returns-then-strand-eq1 : goal.returns-then-strand-eq1
unfolding judge_input
returns-then-strand-eq1 c =
    let k = c.before.before.before in
    let plus = same_32 (strand_fits k) one c.if-strand-eq1.true in
    (rw (some k, plus) c.judge_on.ensures.0, c.judge_on.ensures.1)

pub returns-then-strand : goal.returns-then-strand
unfolding judge_input
returns-then-strand c =
    let k = c.before.before.before.before in
    let not_plus = other_32 (here k).args.numbers.strand (pos 1) c.if-strand-eq1.false in
    let minus = same_32 (strand_fits k) minus_one c.if-strand.true in
    (rw (some k, not_plus, minus) c.judge_on-then-strand.ensures.0, c.judge_on-then-strand.ensures.1)

pub returns : goal.returns
unfolding judge_input
returns c =
    let k = c.before.before.before in
    let not_plus = other_32 (here k).args.numbers.strand (pos 1) c.if-strand-eq1.false in
    let not_minus = other_32 (here k).args.numbers.strand (negsuc 0) c.if-strand.false in
    (rw (some k, not_plus, not_minus), tt)
