-- Few letters are two blocks, for each length of a block alike; of many the last block decides whether the others are looked at. Assumes nothing.
use Rattle.std.proofs.Common.{◌-◌, ◌%◌, sym, ◌∙◌, arith, le-leb}
use Rattle.numbered.specs.laws.All.{later_passes, later_fails}
use Rattle.letters.proofs.all_common.Goals as goal

-- the last block decides whether the others are looked at
pub returns-then-many_common_in : goal.returns-then-many_common_in
returns-then-many_common_in c =
    let back = sym c.many_common_in.ensures ∙ c.if-many_common_in.true in
    rw (le-leb 8 c.args.count (omega arith))
    (c.many_common_in-then-many_common_in.ensures ∙ later_passes _ _ _ _ (omega arith) (omega arith) back)

pub returns : goal.returns
returns c =
    let n = c.args.count in
    rw (le-leb 8 n (omega arith))
    (later_fails _ (n - n % 16) (n - 16) n (omega arith) (omega arith) (sym c.many_common_in.ensures ∙ c.if-many_common_in.false))
