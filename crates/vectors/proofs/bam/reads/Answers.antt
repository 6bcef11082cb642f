-- What is read is held to the row and to the two slices.
use Rattle.std.proofs.Common.{ℕ, ◌&&◌, List, ℤ, ap, ◌∙◌, ap₂}
use Rattle.rows.specs.Rows.{expected}
use Rattle.comparing.specs.Words.{length_words}
use Rattle.comparing.specs.Bam.{holds_counts, holds_letters, elements_agree}
use Rattle.vectors.proofs.bam.reads.Goals as goal

pub returns : goal.returns
unfolding elements_agree
returns c =
    let a = c.args in
    let e = simp c.put_words.ensures at c.txc_read_bam-answer.ensures in
    let words = c.expects.ensures ∙ ap (expected a.row.now) (c.of_length.ensures ∙ ap length_words e.value) in
    let counts = c.holds_counts.ensures ∙ ap (λ (t : List ℤ). holds_counts t a.elements.now) e.counts_after in
    let letters = c.holds_letters.ensures ∙ ap (λ (t : List ℕ). holds_letters t a.elements.now) e.letters_after in
    record { value = ap₂ ◌&&◌ (ap₂ ◌&&◌ words counts) letters; words_after = c.put_words.ensures; counts_after = e.counts_after; letters_after = e.letters_after }
