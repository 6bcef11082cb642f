-- The test of the code is that of the definition.
use mathlib.Core.Path.{sym}
use native.Mathlib.Omega.{arith}
use lib.Seq.{length-take-le}
use borrow.Author.Tests.{lt-ltb, le-ltb}
use Rattle.rows.specs.Rows.{first_of}
use Rattle.rows.proofs.first.Goals as goal

pub returns-then-s-size : goal.returns-then-s-size
unfolding first_of
returns-then-s-size c = rw (lt-ltb _ _ c.if-s-size.true)

pub slice_bounds-result-end-2 : goal.slice_bounds-result-end-2
slice_bounds-result-end-2 c = sym (length-take-le _ _ (omega arith))

pub returns : goal.returns
unfolding first_of
returns c = rw (le-ltb _ _ c.if-s-size.false)
