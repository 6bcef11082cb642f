-- What is written is held to the row and to the buffer.
use Rattle.std.proofs.Common.{ℕ, ◌&&◌, List, [], sym, ap, ◌∙◌, ap₂, w32, eq-eqb, ne_eqb}
use Rattle.whole.specs.laws.Whole.{told}
use Rattle.sequences.specs.Slices.{Slice}
use Rattle.card.specs.Layout.{records_at}
use Rattle.layout.specs.declared.lay.Length.{Length}
use Rattle.rows.specs.Rows.{behind, expected}
use Rattle.comparing.specs.Words.{length_words}
use Rattle.comparing.specs.Texts.{holds_text, card_agrees}
use Rattle.vectors.proofs.texts.writes_card.Goals as goal

pub returns-then-answer-eq0 : goal.returns-then-answer-eq0
unfolding card_agrees
returns-then-answer-eq0 c =
    let a = c.args in
    let end = told w32 c.number-3.result c.number-3.type_inv ∙ c.number-3.ensures in
    let start = told w32 c.number-2.result c.number-2.type_inv ∙ c.number-2.ensures in
    let strand = told w32 c.number.result c.number.type_inv ∙ c.number.ensures in
    let e = simp (c.size.ensures, end, start, c.flags.ensures, strand) at c.txc_write_card-answer.ensures in
    let words = c.expects-same.ensures ∙ ap (expected a.row.now) (c.of_length.ensures ∙ ap length_words e.value) in
    let behind_head = ap (λ (s : Slice). s.bytes) c.rest.ensures ∙ ap (λ (b : List ℕ). behind b records_at) e.buffer_after in
    rw (eq-eqb _ _ (sym (ap (λ (l : Length). l.number) e.value) ∙ c.if-answer-eq0.true))
    record { value = ap₂ ◌&&◌ words (c.holds.ensures ∙ ap (λ (b : List ℕ). holds_text b a.records.now) behind_head); buffer_after = e.buffer_after }

pub returns : goal.returns
unfolding card_agrees
returns c =
    let a = c.args in
    let end = told w32 c.number-3.result c.number-3.type_inv ∙ c.number-3.ensures in
    let start = told w32 c.number-2.result c.number-2.type_inv ∙ c.number-2.ensures in
    let strand = told w32 c.number.result c.number.type_inv ∙ c.number.ensures in
    let e = simp (c.size.ensures, end, start, c.flags.ensures, strand) at c.txc_write_card-answer.ensures in
    let words = c.expects-same.ensures ∙ ap (expected a.row.now) (c.of_length.ensures ∙ ap length_words e.value) in
    rw (ne_eqb _ _ (λ z. c.if-answer-eq0.false (ap (λ (l : Length). l.number) e.value ∙ z)))
    record { value = ap₂ ◌&&◌ words (c.holds-2.ensures ∙ ap (λ (b : List ℕ). holds_text b []) e.buffer_after); buffer_after = e.buffer_after }
