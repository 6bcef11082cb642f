-- What the boundary is asked with are the row's own numbers and flags, and the test is that of the definition.
use Rattle.std.proofs.Common.{sym, ◌∙◌, w32, eq-eqb, ne_eqb}
use Rattle.whole.specs.laws.Whole.{told}
use Rattle.vectors.specs.Questions.{from_g}
use Rattle.vectors.proofs.questions.from_g.Goals as goal

pub returns-then-call-eq-G_TO_C : goal.returns-then-call-eq-G_TO_C
unfolding from_g
returns-then-call-eq-G_TO_C c =
    let end = told w32 c.number-end.result c.number-end.type_inv ∙ c.number-end.ensures in
    let start = told w32 c.number-start.result c.number-start.type_inv ∙ c.number-start.ensures in
    rw (eq-eqb _ _ (sym c.call.ensures ∙ c.if-call-eq-G_TO_C.true)) (simp (c.is_strict-strict.ensures, c.missing-missing.ensures, end, start) at c.txc_g_to_c.ensures)

pub returns : goal.returns
unfolding from_g
returns c =
    let end = told w32 c.number-end.result c.number-end.type_inv ∙ c.number-end.ensures in
    let start = told w32 c.number-start.result c.number-start.type_inv ∙ c.number-start.ensures in
    rw (ne_eqb _ _ (λ e. c.if-call-eq-G_TO_C.false (c.call.ensures ∙ e))) (simp (c.is_strict-strict.ensures, c.missing-missing.ensures, end, start) at c.txc_g_to_n.ensures)
