-- After each turn the lanes tell of one segment more (`taken_more`), of the steps and of the bits alike. Assumes nothing.
use Rattle.std.proofs.Common.{rules}
use Rattle.lanes.proofs.Lanes.{taken_none, taken_more}
use Rattle.lanes.proofs.lanes_on.Goals as goal

pub loop-k-init : goal.loop-k-init
loop-k-init c = (taken_none _ _ _ _, λ n. taken_none _ _ _ _)

pub loop-k-preserved : goal.loop-k-preserved
loop-k-preserved c =
    let kept = c.loop-k.invariant in
    (taken_more _ _ _ _ _ _ _ (search rules) (search rules) c.lane_on-after.ensures.apart_value kept.0, λ n. taken_more _ _ _ _ _ _ _ (search rules) (search rules) (c.lane_on-after.ensures.by_index n) (kept.1 n))
