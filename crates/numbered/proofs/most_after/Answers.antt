-- The test of the letter is the definition's. Assumes nothing.
use Rattle.std.proofs.Common.{eq-eqb, ne_eqb}
use Rattle.cigar.specs.Elements.{letter_n}
use Rattle.numbered.specs.Numbers.{most_after}
use Rattle.numbered.proofs.most_after.Goals as goal

pub returns-then-letter-eq78 : goal.returns-then-letter-eq78
unfolding most_after
returns-then-letter-eq78 c = rw (eq-eqb c.args.letter letter_n c.if-letter-eq78.true)

pub returns-else-letter-eq78 : goal.returns-else-letter-eq78
unfolding most_after
returns-else-letter-eq78 c = rw (ne_eqb c.args.letter letter_n c.if-letter-eq78.false)
