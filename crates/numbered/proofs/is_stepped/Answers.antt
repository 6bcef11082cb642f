-- The difference is the one that wraps, by name (`wrapped16_sub`), and it adds no bit to the most exactly where it is no more (`no_bit_more`). Assumes nothing.
use Rattle.std.proofs.Common.{leb, ◌∙◌, ap₂}
use Rattle.numbered.specs.Numbers.{stepped}
use Rattle.numbered.proofs.OneNumber.{wrapped16_sub, most_small, no_bit_more}
use Rattle.numbered.proofs.is_stepped.Goals as goal

pub returns : goal.returns
unfolding stepped
returns c =
    let a = c.args in
    let step = wrapped16_sub a.high a.low c.ranges.high.fits c.ranges.low.fits in
    no_bit_more _ c.most_after-most.result (rw c.most_after-most.ensures (most_small a.letter)) ∙ ap₂ leb step c.most_after-most.ensures
