-- The buffer is the end of a larger one.
use Rattle.std.proofs.Common.{ap, le-ltb, lt-ltb}
use lib.ListN.{length-replicate}
use Rattle.vectors.proofs.Zeros.{zeros_end}
use Rattle.sequences.specs.Slices.{Slice}
use Rattle.comparing.specs.Sizes.{most_room}
use Rattle.comparing.specs.Texts.{write_agrees}
use Rattle.vectors.proofs.texts.write_cigar.Goals as goal

pub returns-then-elements-gt-MOST_SEGMENTS : goal.returns-then-elements-gt-MOST_SEGMENTS
unfolding write_agrees
returns-then-elements-gt-MOST_SEGMENTS c = rw (lt-ltb _ _ (rw (simp (c.payload-bytes.ensures, c.bits.ensures) at c.first-elements.ensures) at c.if-elements-gt-MOST_SEGMENTS.true))

pub returns-then-lent-gt-MOST_ROOM : goal.returns-then-lent-gt-MOST_ROOM
unfolding write_agrees
returns-then-lent-gt-MOST_ROOM c =
    rw (le-ltb _ _ (rw (simp (c.payload-bytes.ensures, c.bits.ensures) at c.first-elements.ensures) at c.if-elements-gt-MOST_SEGMENTS.false), lt-ltb _ _ (rw c.size-lent.ensures at c.if-lent-gt-MOST_ROOM.true))

pub returns : goal.returns
unfolding write_agrees
returns c =
    let elements = simp (c.payload-bytes.ensures, c.bits.ensures) at c.first-elements.ensures in
    let lent = c.size-lent in
    let text = simp (c.payload-bytes.ensures, c.bits.ensures) at (ap (λ (s : Slice). s.bytes) c.rest.ensures) in
    let r = c.room-buffer in
    let buffer = zeros_end 0 most_room lent.result r.result c.if-lent-gt-MOST_ROOM.false r.ensures.value in
    let put = simp elements at c.put_elements.ensures in
    rw (le-ltb _ _ (rw elements at c.if-elements-gt-MOST_SEGMENTS.false), ← lent.ensures, le-ltb _ _ c.if-lent-gt-MOST_ROOM.false)
    (simp (buffer, length-replicate, put.counts_after, put.letters_after, text) at c.writes_cigar.ensures.value)
