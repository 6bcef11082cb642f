-- The buffer is the end of a larger one.
use lib.ListN.{length-replicate}
use Rattle.std.proofs.Common.{le-ltb, lt-ltb}
use Rattle.vectors.proofs.Zeros.{zeros_end}
use Rattle.comparing.specs.Sizes.{most_room}
use Rattle.comparing.specs.Texts.{write_card_agrees}
use Rattle.vectors.proofs.texts.write_card.Goals as goal

pub returns-then-lent-gt-MOST_ROOM : goal.returns-then-lent-gt-MOST_ROOM
unfolding write_card_agrees
returns-then-lent-gt-MOST_ROOM c = rw (← c.size-lent.ensures, lt-ltb _ _ c.if-lent-gt-MOST_ROOM.true)

pub returns : goal.returns
unfolding write_card_agrees
returns c =
    let r = c.room-buffer in
    let buffer = zeros_end 0 most_room c.size-lent.result r.result c.if-lent-gt-MOST_ROOM.false r.ensures.value in
    rw (← c.size-lent.ensures, le-ltb _ _ c.if-lent-gt-MOST_ROOM.false)
    (simp (buffer, length-replicate, c.payload.ensures) at c.writes_card.ensures.value)
