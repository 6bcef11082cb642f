-- What is left to replay makes with the counts so far what the whole file makes.
use Rattle.std.proofs.Common.{◌-◌, length}
use Rattle.segments.specs.Tables.{tables}
use Rattle.vectors.proofs.Replaying.{Left}
use Rattle.vectors.proofs.replay.Given as goal

abbrev pub invariant-loop-at : goal.invariant-loop-at
invariant-loop-at g l = Left l.file l.at l.head (tables l.genome l.transcript l.letters) l.exons l.tally

abbrev pub decreases-loop-at : goal.decreases-loop-at
decreases-loop-at g l = length l.file - l.at
