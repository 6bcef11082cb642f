-- The measure is the count, which falls.
use Rattle.spelling.proofs.+digits_len.Given as goal

abbrev pub decreases-digits_len : goal.decreases-digits_len
decreases-digits_len l = l.n
