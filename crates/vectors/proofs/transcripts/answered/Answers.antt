-- The tests on the way to each call are those of the definitions.
use Rattle.std.proofs.Common.{sym, refl, ◌∙◌, ne_eqb}
use Rattle.comparing.specs.Changes.{change_words, head_after, tables_then, exons_then}
use Rattle.vectors.proofs.transcripts.answered.Goals as goal

pub returns-then-call-eq-BUILD_CARD : goal.returns-then-call-eq-BUILD_CARD
unfolding change_words head_after tables_then exons_then
returns-then-call-eq-BUILD_CARD c = let e = sym c.call-call.ensures ∙ c.if-call-eq-BUILD_CARD.true in rw e c.build_card.ensures

pub returns-then-call-eq-BUILD : goal.returns-then-call-eq-BUILD
unfolding change_words head_after tables_then exons_then
returns-then-call-eq-BUILD c = let e = sym c.call-call.ensures ∙ c.if-call-eq-BUILD.true in rw e c.build.ensures

pub returns-then-call-eq-BUILD_LENGTH : goal.returns-then-call-eq-BUILD_LENGTH
unfolding change_words head_after tables_then exons_then
returns-then-call-eq-BUILD_LENGTH c = let e = sym c.call-call.ensures ∙ c.if-call-eq-BUILD_LENGTH.true in rw e record { value = c.build_length.ensures.value; head_after = c.build_length.ensures.head_after; letters_after = refl; exons_after = refl }

pub returns : goal.returns
unfolding change_words head_after tables_then exons_then
returns c = rw (← c.call-call.ensures, ne_eqb _ _ c.if-call-eq-BUILD_CARD.false, ne_eqb _ _ c.if-call-eq-BUILD.false, ne_eqb _ _ c.if-call-eq-BUILD_LENGTH.false) record { value = c.of_damage.ensures; head_after = c.damage.ensures.head_after; letters_after = c.damage.ensures.letters_after; exons_after = c.damage.ensures.exons_after }
