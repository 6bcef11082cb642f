-- The tests on the way to each call are those of the definition.
use Rattle.std.proofs.Common.{sym, ◌∙◌, ne_eqb}
use Rattle.comparing.specs.Bam.{bam_row_agrees}
use Rattle.vectors.proofs.bam.agrees.Goals as goal

pub returns-then-call-eq-READ_BAM : goal.returns-then-call-eq-READ_BAM
unfolding bam_row_agrees
returns-then-call-eq-READ_BAM c = let e = sym c.call-call.ensures ∙ c.if-call-eq-READ_BAM.true in rw e c.read_bam.ensures

pub returns-then-call-eq-WRITE_BAM : goal.returns-then-call-eq-WRITE_BAM
unfolding bam_row_agrees
returns-then-call-eq-WRITE_BAM c = let e = sym c.call-call.ensures ∙ c.if-call-eq-WRITE_BAM.true in rw e c.write_bam.ensures

pub returns : goal.returns
unfolding bam_row_agrees
returns c = rw (← c.call-call.ensures, ne_eqb _ _ c.if-call-eq-READ_BAM.false, ne_eqb _ _ c.if-call-eq-WRITE_BAM.false)
