-- The text is the front of the row's bytes, and the elements are behind it.
use Rattle.std.proofs.Common.{◌&&◌, eqb, ap, ◌∙◌, ap₂, le-ltb, lt-ltb}
use Rattle.sequences.specs.Slices.{Slice}
use Rattle.layout.specs.declared.lay.Length.{Length}
use Rattle.rows.specs.Rows.{expected}
use Rattle.comparing.specs.Words.{length_words}
use Rattle.comparing.specs.Texts.{laid_out, read_agrees}
use Rattle.vectors.proofs.texts.read_cigar.Goals as goal

pub returns-then-number-gt-MOST_SEGMENTS : goal.returns-then-number-gt-MOST_SEGMENTS
unfolding read_agrees
returns-then-number-gt-MOST_SEGMENTS c =
    rw (lt-ltb _ _ (rw (simp (c.payload-bytes.ensures, c.size-size.ensures) at (ap (λ (s : Slice). s.bytes) c.rest-elements.ensures)) at c.if-number-gt-MOST_SEGMENTS.true))

pub returns : goal.returns
unfolding read_agrees
returns c =
    let row = c.args.row.now in
    let elements = simp (c.payload-bytes.ensures, c.size-size.ensures) at (ap (λ (s : Slice). s.bytes) c.rest-elements.ensures) in
    let text = simp (c.payload-bytes.ensures, c.size-size.ensures) at c.first.ensures in
    let read = simp text at c.txc_read_cigar-answer.ensures in
    let words = c.expects.ensures ∙ ap (expected row) (c.of_length.ensures ∙ ap length_words read.value) in
    let lengths = ap₂ eqb (ap (λ (l : Length). l.length) read.value) (ap laid_out elements) in
    let tables = simp (elements, read.counts_after, read.letters_after) at c.begin_with.ensures in
    rw (le-ltb _ _ (rw elements at c.if-number-gt-MOST_SEGMENTS.false)) (ap₂ ◌&&◌ (ap₂ ◌&&◌ words lengths) tables)
