-- The three slices are the ends of larger ones.
use Rattle.std.proofs.Common.{pos, ap, le-ltb, lt-ltb}
use lib.ListN.{length-replicate}
use Rattle.vectors.proofs.Zeros.{zeros_end}
use Rattle.sequences.specs.Slices.{Slice}
use Rattle.comparing.specs.Sizes.{most_words}
use Rattle.comparing.specs.Bam.{read_bam_agrees}
use Rattle.vectors.proofs.bam.read_bam.Goals as goal

pub returns-then-number-gt-MOST_WORDS : goal.returns-then-number-gt-MOST_WORDS
unfolding read_bam_agrees
returns-then-number-gt-MOST_WORDS c = rw (← c.size-number.ensures, lt-ltb _ _ c.if-number-gt-MOST_WORDS.true)

pub returns-then-counts_len-gt-MOST_WORDS : goal.returns-then-counts_len-gt-MOST_WORDS
unfolding read_bam_agrees
returns-then-counts_len-gt-MOST_WORDS c = rw (← c.size-number.ensures, le-ltb _ _ c.if-number-gt-MOST_WORDS.false, ← c.size-counts_len.ensures, lt-ltb _ _ c.if-counts_len-gt-MOST_WORDS.true)

pub returns-then-letters_len-gt-MOST_WORDS : goal.returns-then-letters_len-gt-MOST_WORDS
unfolding read_bam_agrees
returns-then-letters_len-gt-MOST_WORDS c = rw (← c.size-number.ensures, le-ltb _ _ c.if-number-gt-MOST_WORDS.false, ← c.size-counts_len.ensures, le-ltb _ _ c.if-counts_len-gt-MOST_WORDS.false, ← c.size-letters_len.ensures, lt-ltb _ _ c.if-letters_len-gt-MOST_WORDS.true)

pub returns : goal.returns
unfolding read_bam_agrees
returns c =
    let few = c.if-number-gt-MOST_WORDS.false in
    let few_counts = c.if-counts_len-gt-MOST_WORDS.false in
    let few_letters = c.if-letters_len-gt-MOST_WORDS.false in
    let number = c.size-number in
    let counts_len = c.size-counts_len in
    let letters_len = c.size-letters_len in
    let layout = simp c.payload-bytes.ensures at c.first.ensures in
    let elements = simp c.payload-bytes.ensures at (ap (λ (s : Slice). s.bytes) c.rest.ensures) in
    let words = zeros_end 0 most_words number.result c.word_room-words.result few c.word_room-words.ensures.value in
    let counts = zeros_end (pos 0) most_words counts_len.result c.count_room-counts.result few_counts c.count_room-counts.ensures.value in
    let letters = zeros_end 0 most_words letters_len.result c.letter_room-letters.result few_letters c.letter_room-letters.ensures.value in
    rw (← number.ensures, le-ltb _ _ few, ← counts_len.ensures, le-ltb _ _ few_counts, ← letters_len.ensures, le-ltb _ _ few_letters)
    (simp (words, counts, letters, length-replicate, layout, elements) at c.reads.ensures.value)
