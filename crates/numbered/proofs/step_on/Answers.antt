-- The difference is the one that wraps, by name (`wrapped16_sub`), and nothing is above where it is no more than the most. Assumes nothing.
use Rattle.std.proofs.Common.{ℕ, Bool, ◌&&◌, eqb, leb, ap, ◌∙◌, ap₂}
use Rattle.numbered.specs.Numbers.{stepped}
use Rattle.numbered.proofs.OneNumber.{wrapped16_sub, none_above}
use Rattle.numbered.proofs.step_on.Goals as goal

pub returns : goal.returns
unfolding stepped
returns c =
    let a = c.args in
    let step = wrapped16_sub a.high a.low c.ranges.high.fits c.ranges.low.fits in
    c.with_bits.ensures
    ∙ ap (λ (b : Bool). eqb a.wrong 0 && b) (ap (λ (n : ℕ). eqb n 0) c.saturating_sub.ensures ∙ none_above _ c.most_after-most.result ∙ ap₂ leb step c.most_after-most.ensures)
