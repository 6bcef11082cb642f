-- The tests of a card, as they are made.
--     marked_long, card_long   bytes that passed are long enough for what is read next
--     card_is                  the tests of `is_card` on the numbers that were read
-- Assumes nothing.
use mathlib.Core.Path.{◌≡◌}
use mathlib.Core.Bool.{true, ◌&&◌}
use mathlib.Core.List.{List}
use Prim.Native.Nat.{ℕ, ◌≤◌}
use borrow.Author.Tests.{le-leb, leb-true}
use lib.Dec.{leb}
use lib.ListN.{length, get_or, drop}
use Rattle.whole.specs.laws.Whole.{both}
use Rattle.records.specs.Records.{exactly}
use Rattle.transcript.specs.Heads.{both_bits}
use Rattle.card.specs.Layout.{strand_at, records_at}
use Rattle.card.specs.Card.{is_marked, numbers_in, are_plain, is_card}
use Rattle.transcript.specs.declared.Numbers.{Numbers}

pub card_is : (s : List ℕ) {m : Numbers} → m ≡ numbers_in s → records_at ≤ length s → get_or s strand_at 0 ≤ 1
    → is_card s ≡ (leb m.cds both_bits && (are_plain m.cds m.start m.end && exactly m.count (drop records_at s) 0))
unfolding is_card numbers_in
card_is s {m} e long strand = rw (e, le-leb records_at (length s) long, le-leb (get_or s strand_at 0) 1 strand)

pub marked_long : (s : List ℕ) → is_marked s ≡ true → strand_at ≤ length s
unfolding is_marked
marked_long s e = leb-true strand_at (length s) (both _ _ e).0

pub card_long : (s : List ℕ) → is_card s ≡ true → records_at ≤ length s
unfolding is_card
card_long s e = leb-true records_at (length s) (both _ _ e).0
