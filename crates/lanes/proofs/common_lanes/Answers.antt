-- After each turn the lanes tell of all segments of the blocks passed (`on_stretch`). The last block ends where the segments do. Assumes nothing.
use Rattle.std.proofs.Common.{◌≡◌, ℕ, ◌+◌, ◌*◌, ◌≤◌, ◌∙◌, ap, arith, min}
use Rattle.segments.specs.Tables.{tables, all_below}
use Rattle.stepping.specs.Steps.{common_same_at, common_within_at}
use Rattle.numbered.specs.laws.All.{on_stretch}
use Rattle.lanes.proofs.NoBits.{none_is}
use Rattle.lanes.proofs.Lanes.{lanes_none}
use Rattle.lanes.proofs.common_lanes.Goals as goal

pub loop-block-init : goal.loop-block-init
loop-block-init c = let none : min c.args.count 0 ≡ 0 = omega arith in rw none (lanes_none _ _, λ k. lanes_none _ _)

pub loop-block-preserved : goal.loop-block-preserved
loop-block-preserved c =
    let kept = c.loop-block.invariant in
    let took = c.lanes_on.ensures in
    let first : ℕ = c.min-first.result in
    let reached : min c.args.count ((c.loop-block.block + 1) * 8) ≡ first + 8 = omega arith in
    let meets : first ≤ min c.args.count (c.loop-block.block * 8) = omega arith in
    let within : min c.args.count (c.loop-block.block * 8) ≤ first + 8 = omega arith in
    rw reached (on_stretch _ _ _ _ meets within kept.0 took.apart_after, λ k. on_stretch _ _ _ _ meets within (kept.1 k) (took.by_index k))

pub returns : goal.returns
returns c =
    let a = tables c.args.genome.now c.args.transcript.now c.args.letters.now in
    let kept = c.loop-block.invariant in
    let all : min c.args.count (c.loop-block.block * 8) ≡ c.args.count = omega arith in
    record {
      same_value = none_is _ ∙ c.all_bits-same.ensures 0 ∙ kept.0 ∙ ap (all_below (common_same_at a)) all;
      by_index = λ k. c.all_bits-bits.ensures k ∙ kept.1 k ∙ ap (all_below (common_within_at k a)) all;
    }
