-- The tests on the way to each call are those of the definition.
use Rattle.std.proofs.Common.{ap, ◌∙◌, eq-eqb, ne_eqb}
use Rattle.comparing.specs.Texts.{part_words, common_words, alleles_words}
use Rattle.vectors.proofs.texts.of_alleles.Goals as goal

pub returns-then-call-eq-TRIM_PREFIX : goal.returns-then-call-eq-TRIM_PREFIX
unfolding alleles_words
returns-then-call-eq-TRIM_PREFIX c = rw (eq-eqb _ _ c.if-call-eq-TRIM_PREFIX.true) (c.of_common.ensures ∙ ap common_words c.txc_trim_prefix.ensures)

pub returns-then-call-eq-TRIM_SUFFIX : goal.returns-then-call-eq-TRIM_SUFFIX
unfolding alleles_words
returns-then-call-eq-TRIM_SUFFIX c = rw (ne_eqb _ _ c.if-call-eq-TRIM_PREFIX.false, eq-eqb _ _ c.if-call-eq-TRIM_SUFFIX.true) (c.of_common-then-call-eq-TRIM_SUFFIX.ensures ∙ ap common_words c.txc_trim_suffix.ensures)

pub returns : goal.returns
unfolding alleles_words
returns c = rw (ne_eqb _ _ c.if-call-eq-TRIM_PREFIX.false, ne_eqb _ _ c.if-call-eq-TRIM_SUFFIX.false) (c.of_part.ensures ∙ ap part_words c.txc_changed.ensures)
