-- What the boundary is asked with are the row's own numbers and flags, and the test is that of the definition.
use Rattle.std.proofs.Common.{sym, ◌∙◌, w32, eq-eqb, ne_eqb}
use Rattle.whole.specs.laws.Whole.{told}
use Rattle.vectors.specs.Questions.{said_to}
use Rattle.vectors.proofs.questions.said.Goals as goal

pub returns-then-call-eq-IN_BOUNDS : goal.returns-then-call-eq-IN_BOUNDS
unfolding said_to
returns-then-call-eq-IN_BOUNDS c =
    let end = told w32 c.number-end.result c.number-end.type_inv ∙ c.number-end.ensures in
    let start = told w32 c.number-start.result c.number-start.type_inv ∙ c.number-start.ensures in
    rw (eq-eqb _ _ (sym c.call.ensures ∙ c.if-call-eq-IN_BOUNDS.true)) (simp (c.missing-missing.ensures, end, start) at c.txc_in_bounds.ensures)

pub returns : goal.returns
unfolding said_to
returns c =
    rw (ne_eqb _ _ (λ e. c.if-call-eq-IN_BOUNDS.false (c.call.ensures ∙ e))) c.txc_is_coding.ensures
