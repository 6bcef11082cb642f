-- What the boundary is asked with are the row's own numbers and flags, and the test is that of the definition.
use Rattle.std.proofs.Common.{sym, ◌∙◌, w32, eq-eqb, ne_eqb}
use Rattle.whole.specs.laws.Whole.{told}
use Rattle.vectors.specs.Questions.{from_n}
use Rattle.vectors.proofs.questions.from_n.Goals as goal

pub returns-then-call-eq-N_TO_C : goal.returns-then-call-eq-N_TO_C
unfolding from_n
returns-then-call-eq-N_TO_C c =
    let past_end = told w32 c.number-then-call-eq-N_TO_C-3.result c.number-then-call-eq-N_TO_C-3.type_inv ∙ c.number-then-call-eq-N_TO_C-3.ensures in
    let end = told w32 c.number-then-call-eq-N_TO_C-2.result c.number-then-call-eq-N_TO_C-2.type_inv ∙ c.number-then-call-eq-N_TO_C-2.ensures in
    let past_start = told w32 c.number-then-call-eq-N_TO_C.result c.number-then-call-eq-N_TO_C.type_inv ∙ c.number-then-call-eq-N_TO_C.ensures in
    let start = told w32 c.number.result c.number.type_inv ∙ c.number.ensures in
    rw (eq-eqb _ _ (sym c.call.ensures ∙ c.if-call-eq-N_TO_C.true)) (simp (c.is_strict.ensures, past_end, end, past_start, start) at c.txc_n_to_c.ensures)

pub returns : goal.returns
unfolding from_n
returns c =
    let past_end = told w32 c.number-5.result c.number-5.type_inv ∙ c.number-5.ensures in
    let end = told w32 c.number-4.result c.number-4.type_inv ∙ c.number-4.ensures in
    let past_start = told w32 c.number-3.result c.number-3.type_inv ∙ c.number-3.ensures in
    let start = told w32 c.number-2.result c.number-2.type_inv ∙ c.number-2.ensures in
    rw (ne_eqb _ _ (λ e. c.if-call-eq-N_TO_C.false (c.call.ensures ∙ e))) (simp (c.is_strict-2.ensures, past_end, end, past_start, start) at c.txc_n_to_g.ensures)
