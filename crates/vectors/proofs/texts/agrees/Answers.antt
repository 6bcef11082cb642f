-- The tests on the way to each call are those of the definition.
use Rattle.std.proofs.Common.{sym, ◌∙◌, ne_eqb}
use Rattle.comparing.specs.Texts.{text_row_agrees}
use Rattle.vectors.proofs.texts.agrees.Goals as goal

pub returns-then-call-eq-READ_CIGAR : goal.returns-then-call-eq-READ_CIGAR
unfolding text_row_agrees
returns-then-call-eq-READ_CIGAR c = let e = sym c.call-call.ensures ∙ c.if-call-eq-READ_CIGAR.true in rw e c.read_cigar.ensures

pub returns-then-call-eq-WRITE_CIGAR : goal.returns-then-call-eq-WRITE_CIGAR
unfolding text_row_agrees
returns-then-call-eq-WRITE_CIGAR c = let e = sym c.call-call.ensures ∙ c.if-call-eq-WRITE_CIGAR.true in rw e c.write_cigar.ensures

pub returns-then-call-eq-WRITE_CARD : goal.returns-then-call-eq-WRITE_CARD
unfolding text_row_agrees
returns-then-call-eq-WRITE_CARD c = let e = sym c.call-call.ensures ∙ c.if-call-eq-WRITE_CARD.true in rw e c.write_card.ensures

pub returns : goal.returns
unfolding text_row_agrees
returns c =
    let call = c.call-call in
    rw (ne_eqb _ _ (λ e. c.if-call-eq-READ_CIGAR.false (call.ensures ∙ e)), ne_eqb _ _ (λ e. c.if-call-eq-WRITE_CIGAR.false (call.ensures ∙ e)), ne_eqb _ _ (λ e. c.if-call-eq-WRITE_CARD.false (call.ensures ∙ e)))
    c.alleles_agree.ensures
