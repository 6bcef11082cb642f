-- The test is that of the definition.
use Rattle.std.proofs.Common.{sym, ◌∙◌, eq-eqb, ne_eqb}
use Rattle.vectors.specs.Questions.{from_c}
use Rattle.vectors.proofs.questions.from_c.Goals as goal

pub returns-then-call-eq-C_TO_N : goal.returns-then-call-eq-C_TO_N
unfolding from_c
returns-then-call-eq-C_TO_N c = rw (eq-eqb _ _ (sym c.call.ensures ∙ c.if-call-eq-C_TO_N.true)) c.c_to_n.ensures

pub returns : goal.returns
unfolding from_c
returns c = rw (ne_eqb _ _ (λ e. c.if-call-eq-C_TO_N.false (c.call.ensures ∙ e))) c.c_to_g.ensures
