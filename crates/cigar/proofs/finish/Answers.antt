-- `cigar::finish` meets its contract: the tests that led to each `return` say which case of `finished` holds.
-- Assumes nothing.
use native.Mathlib.Omega.{arith}
use borrow.Author.Tests.{le-ltb, lt-ltb}
use Rattle.refusals.specs.Numbers.{most_count}
use Rattle.cigar.proofs.finish.Goals as goal

pub returns-then-not-given : goal.returns-then-not-given
returns-then-not-given c = simp c.if-not-given.true

pub returns-then-n-lt-OVER : goal.returns-then-n-lt-OVER
returns-then-n-lt-OVER c = simp (c.if-not-given.false, le-ltb most_count c.args.n (omega arith))

pub returns : goal.returns
returns c = simp (c.if-not-given.false, lt-ltb most_count c.args.n (omega arith))
