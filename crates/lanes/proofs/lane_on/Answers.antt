-- The differences are those that wrap, by name (`wraps`), the last has no bits where the steps are the same (`apart_is`), and the bits are gathered as the definition names them. Assumes nothing.
use Rattle.std.proofs.Common.{Bool, ◌&&◌, ap, ◌∙◌, arith}
use Rattle.stepping.specs.Steps.{within, common_same, common_within}
use Rattle.stepping.specs.laws.OneStep.{wraps}
use Rattle.lanes.proofs.NoBits.{apart_is}
use Rattle.lanes.proofs.lane_on.Goals as goal

pub returns : goal.returns
unfolding common_same common_within
returns c =
    let a = c.args in
    let fits = c.ranges in
    let dg = wraps a.g1 a.g0 fits.g1.fits fits.g0.fits in
    let dt = wraps a.t1 a.t0 fits.t1.fits fits.t0.fits in
    let apart = apart_is c.unless-step.result _ (omega arith) (omega arith) in
    record {
      apart_value = c.with_bits-apart.ensures 0 ∙ ap (λ (b : Bool). within 0 a.lane.apart && b) (apart ∙ simp (c.unless-step.ensures, dg, dt));
      by_index = λ k. simp (c.with_bits-bits.ensures k, dg);
    }
