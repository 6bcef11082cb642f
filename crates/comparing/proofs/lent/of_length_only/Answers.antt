-- The number says whether there is a transcript, and its length is the last of the head.
use lib.IntN.{pos}
use lib.ListN.{get_or}
use mir.Syntax.{w32}
use mir.Val.{SFits}
use Rattle.whole.specs.laws.Whole.{read, fits_wider, widened}
use borrow.Author.Tests.{eq-eqb, ne_eqb}
use Rattle.comparing.specs.Changes.{length_only_words}
use Rattle.comparing.proofs.lent.of_length_only.Goals as goal

pub overflow_cast-length : goal.overflow_cast-length
overflow_cast-length c = let length : SFits w32 (get_or c.args.head.now 7 (pos 0)) = record { sfits = c.length-1.given } in simp (read length) (fits_wider length)

pub returns-then-number-eq0 : goal.returns-then-number-eq0
unfolding length_only_words
returns-then-number-eq0 c = let length : SFits w32 (get_or c.args.head.now 7 (pos 0)) = record { sfits = c.length-1.given } in rw (eq-eqb _ _ c.if-number-eq0.true) (simp (widened length) at c.of_numbers.ensures)

pub returns : goal.returns
unfolding length_only_words
returns c = rw (ne_eqb _ _ c.if-number-eq0.false) c.of_refusal.ensures
