-- The cards up to a place are listed.
use Rattle.std.proofs.Common.{◌≡◌, ◌-◌, length}
use Rattle.segments.specs.Tables.{tables}
use Rattle.listings.proofs.Listed.{Listed}
use Rattle.listings.proofs.list_all.Given as goal

abbrev pub invariant-loop-at : goal.invariant-loop-at
invariant-loop-at g l = record {
  room : length l.text ≡ length l.initial.text;
  listed : Listed l.cards l.at (tables l.genome l.transcript l.letters) l.exons l.text (tables l.initial.genome l.initial.transcript l.initial.letters) l.initial.exons l.initial.text;
}

abbrev pub decreases-loop-at : goal.decreases-loop-at
decreases-loop-at g l = length l.cards - l.at
