-- `cigar::along_genome` meets its contract: `D` alone goes nowhere along the genome, and any other letter goes its whole count (`genome_whole`). Assumes nothing.
use mathlib.Core.Path.{refl}
use native.Mathlib.Omega.{arith}
use Rattle.cigar.specs.Elements.{kind_of}
use Rattle.cigar.specs.laws.Letters.{genome_whole}
use Rattle.cigar.proofs.along_genome.Goals as goal

pub returns-then-letter-eq68 : goal.returns-then-letter-eq68
unfolding kind_of
returns-then-letter-eq68 c = rw c.if-letter-eq68.true (refl, omega arith)

pub returns-else-letter-eq68 : goal.returns-else-letter-eq68
returns-else-letter-eq68 c = (genome_whole _ _ c.if-letter-eq68.false, omega arith)
