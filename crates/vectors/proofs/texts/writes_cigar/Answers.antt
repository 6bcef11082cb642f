-- What is written is held to the row and to the buffer.
use Rattle.std.proofs.Common.{ℕ, ◌&&◌, List, ap, ◌∙◌, ap₂}
use Rattle.rows.specs.Rows.{expected}
use Rattle.comparing.specs.Words.{length_words}
use Rattle.comparing.specs.Texts.{holds_text, text_agrees}
use Rattle.vectors.proofs.texts.writes_cigar.Goals as goal

pub returns : goal.returns
unfolding text_agrees
returns c =
    let a = c.args in
    let e = simp c.size.ensures at c.txc_write_cigar-answer.ensures in
    let words = c.expects.ensures ∙ ap (expected a.row.now) (c.of_length.ensures ∙ ap length_words e.value) in
    record { value = ap₂ ◌&&◌ words (c.holds.ensures ∙ ap (λ (b : List ℕ). holds_text b a.text.now) e.buffer_after); buffer_after = e.buffer_after }
