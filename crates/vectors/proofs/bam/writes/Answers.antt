-- What is written is held to the row and to the slice.
use Rattle.std.proofs.Common.{ℕ, ◌&&◌, List, ap, ◌∙◌, ap₂}
use Rattle.rows.specs.Rows.{expected}
use Rattle.comparing.specs.Words.{length_words}
use Rattle.comparing.specs.Bam.{holds_words, words_agree}
use Rattle.vectors.proofs.bam.writes.Goals as goal

pub returns : goal.returns
unfolding words_agree
returns c =
    let a = c.args in
    let e = simp c.size.ensures at c.txc_write_bam-answer.ensures in
    let words = c.expects.ensures ∙ ap (expected a.row.now) (c.of_length.ensures ∙ ap length_words e.value) in
    record { value = ap₂ ◌&&◌ words (c.holds_words.ensures ∙ ap (λ (b : List ℕ). holds_words b a.layout.now) e.words_after); words_after = e.words_after }
