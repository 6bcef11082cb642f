-- `playing::card_end` meets its contract: the tests are those of the definition.
-- Assumes nothing.
use Prim.Native.Nat.{◌-◌}
use native.Mathlib.Omega.{arith}
use borrow.Author.Tests.{lt-ltb, le-ltb}
use lib.ListN.{length}
use Rattle.refusals.specs.Numbers.{most_card}
use Rattle.playing.specs.Played.{size_bytes, card_end}
use Rattle.playing.proofs.card_end.Goals as goal

pub returns-then-input-lt-SIZE : goal.returns-then-input-lt-SIZE
unfolding card_end
returns-then-input-lt-SIZE c = rw (lt-ltb (length c.args.input.now) size_bytes c.if-input-lt-SIZE.true)

pub returns-then-size-gt-MOST_CARD : goal.returns-then-size-gt-MOST_CARD
unfolding card_end
returns-then-size-gt-MOST_CARD c =
    let u = c.u32_at-size in
    let s = c.args.input.now in
    rw (← u.ensures, le-ltb (length s) size_bytes (omega arith), lt-ltb most_card u.result (omega arith))

pub returns-then-input-size : goal.returns-then-input-size
unfolding card_end
returns-then-input-size c =
    let u = c.u32_at-size in
    let s = c.args.input.now in
    rw (← u.ensures, le-ltb (length s) size_bytes (omega arith), le-ltb most_card u.result (omega arith), lt-ltb (length s - size_bytes) u.result (omega arith))

pub returns : goal.returns
unfolding card_end
returns c =
    let u = c.u32_at-size in
    let s = c.args.input.now in
    rw (← u.ensures, le-ltb (length s) size_bytes (omega arith), le-ltb most_card u.result (omega arith), le-ltb (length s - size_bytes) u.result (omega arith))
