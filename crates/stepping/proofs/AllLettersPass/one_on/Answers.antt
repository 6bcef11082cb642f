-- The differences are those that wrap, by name (`wraps`), and the bits are gathered as the definition names them. Assumes nothing.
use Rattle.stepping.specs.Steps.{same, steps_within}
use Rattle.stepping.specs.laws.OneStep.{wraps}
use Rattle.stepping.proofs.AllLettersPass.one_on.Goals as goal

pub returns : goal.returns
unfolding same steps_within
returns c =
    let a = c.args in
    let fits = c.ranges in
    let dg = wraps a.g1 a.g0 fits.g1.fits fits.g0.fits in
    let dt = wraps a.t1 a.t0 fits.t1.fits fits.t0.fits in
    record { same_value = simp (c.unless-genome.ensures, c.unless-transcript.ensures, dg, dt); by_index = λ k. simp (c.with_bits-bits.ensures k, c.with_bits.ensures k, dg, dt) }
