-- The number says whether there is a transcript, and its words are those that the head and the tables hold.
use mathlib.Core.Path.{ap, ◌∙◌}
use lib.IntN.{pos}
use lib.ListN.{get_or}
use mir.Syntax.{w32}
use mir.Val.{Fits, SFits}
use Rattle.whole.specs.laws.Whole.{read, fits_wider, widened}
use Rattle.whole.specs.laws.Machine.{entry}
use borrow.Author.Tests.{eq-eqb, ne_eqb}
use Rattle.comparing.specs.Changes.{records_words}
use Rattle.comparing.proofs.lent.of_records.Goals as goal

pub overflow_cast-strand : goal.overflow_cast-strand
overflow_cast-strand c = let strand : SFits w32 (get_or c.args.head.now 1 (pos 0)) = record { sfits = c.strand-1.given } in simp (read strand) (fits_wider strand)

pub overflow_cast-first : goal.overflow_cast-first
overflow_cast-first c = let first : SFits w32 (get_or c.args.head.now 2 (pos 0)) = record { sfits = c.first-1.given } in simp (read first) (fits_wider first)

pub overflow_cast-count : goal.overflow_cast-count
overflow_cast-count c = let count : SFits w32 (get_or c.args.head.now 3 (pos 0)) = record { sfits = c.count-1.given } in simp (read count) (fits_wider count)

pub returns-then-number-eq0 : goal.returns-then-number-eq0
unfolding records_words
returns-then-number-eq0 c =
    let strand : SFits w32 (get_or c.args.head.now 1 (pos 0)) = record { sfits = c.strand-1.given } in
    let first : SFits w32 (get_or c.args.head.now 2 (pos 0)) = record { sfits = c.first-1.given } in
    let count : SFits w32 (get_or c.args.head.now 3 (pos 0)) = record { sfits = c.count-1.given } in
    let g = c.total-along_genome in
    let t = c.total-along_transcript in
    let g_fits : Fits w32 g.result = record { fits = g.type_inv } in
    let t_fits : Fits w32 t.result = record { fits = t.type_inv } in
    rw (eq-eqb _ _ c.if-number-eq0.true) (simp (widened strand, widened first, widened count, entry g_fits ∙ ap pos g.ensures, entry t_fits ∙ ap pos t.ensures) at c.of_numbers.ensures)

pub returns : goal.returns
unfolding records_words
returns c = rw (ne_eqb _ _ c.if-number-eq0.false) c.of_refusal.ensures
