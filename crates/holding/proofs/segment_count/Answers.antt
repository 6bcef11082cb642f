-- `holding::segment_count` meets its contract: the count of a right head is at least 1 and at most `mostSegments` (`head_means`), so that `natural` can be asked and its result is bounded. Assumes nothing.
use native.Mathlib.Omega.{arith}
use mir.Syntax.{w32}
use mir.Val.{SFits}
use Rattle.whole.specs.laws.Whole.{read}
use Rattle.holding.specs.laws.Held.{head_means, natural_says}
use Rattle.holding.proofs.segment_count.Goals as goal

pub natural-count-requires : goal.natural-count-requires
natural-count-requires c =
    let h = c.args.head in
    let count : SFits w32 h.count = record { sfits = c.struct_told-1.given.1.1.1.0.1 } in
    simp (read count) (natural_says h.count (head_means h c.requires).count.natural)

pub returns : goal.returns
returns c =
    let h = c.args.head in
    let count : SFits w32 h.count = record { sfits = c.struct_told-1.given.1.1.1.0.1 } in
    let is = simp (read count) at c.natural-count.ensures in
    let right = (head_means h c.requires).count in
    (is, omega (arith, is, right.above), omega (arith, is, right.below))
