-- `holding::cds_holds` meets its contract: the head's `bits` are 0, 3 or neither, which comparing their words tells (`same_32`, `other_32`), and at 3 the code makes `cds_holds`'s three tests of the range. Assumes nothing.
use native.Mathlib.Omega.{arith}
use lib.IntN.{pos}
use mir.Syntax.{w32}
use mir.Val.{SFits}
use Rattle.whole.specs.laws.Whole.{read, fits_wider}
use Rattle.whole.specs.laws.Machine.{entry, same_32, other_32}
use Rattle.holding.specs.Holding.{cds_holds}
use Rattle.holding.proofs.cds_holds.Goals as goal

pub returns-then-bits-eq-BOTH_GIVEN : goal.returns-then-bits-eq-BOTH_GIVEN
unfolding cds_holds
returns-then-bits-eq-BOTH_GIVEN c =
    let told = c.struct_told-3-1.given in
    let h = c.args.head in
    let bits : SFits w32 h.bits = record { sfits = told.1.1.1.1.0.1 } in
    let start : SFits w32 h.start = record { sfits = told.1.1.1.1.1.0.1 } in
    let end : SFits w32 h.end = record { sfits = told.1.1.1.1.1.1.0.1 } in
    simp (other_32 h.bits (pos 0) c.if-bits-eq-NONE_GIVEN.false, same_32 {b = pos 3} bits (record { sfits = omega arith }) c.if-bits-eq-BOTH_GIVEN.true, read start, read end, read (fits_wider end), entry c.ranges.length)
