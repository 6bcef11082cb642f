-- `reading::one_on` meets its contract: `along_genome` and `along_transcript` say how far the element goes, less than 2^32 on either side, so that bounded sums stay bounded and fit. Assumes nothing.
use mathlib.Core.Path.{refl}
use native.Mathlib.Omega.{arith}
use Rattle.cigar.specs.Elements.{genome, transcript}
use Rattle.reading.specs.laws.Texts.{sums_eq}
use Rattle.reading.proofs.one_on.Goals as goal

pub returns : goal.returns
unfolding genome transcript
returns c =
    let g = c.along_genome.ensures in
    let t = c.along_transcript.ensures in
    (sums_eq refl (omega (arith, g.0)) (omega (arith, t.0)), record { few = omega arith; genome_small = omega (arith, g.1); transcript_small = omega (arith, t.1) })
