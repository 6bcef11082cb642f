-- Building from a card, and writing a card into a lent buffer. Assumes nothing.
use Rattle.std.specs.Prelude.{ℕ, List, drop}
use Rattle.refusals.specs.Numbers.{most_card}
use Rattle.refusals.specs.Outcome.{Outcome, Ok, Err}
use Rattle.spelling.specs.Write.{Writing, fitted}
use Rattle.transcript.specs.declared.Numbers.{Numbers}
use Rattle.judging.specs.Input.{input_of}
use Rattle.judging.specs.Judging.{Made, judge}
use Rattle.card.specs.Layout.{records_at}
use Rattle.card.specs.Card.{card_text, read_card}

-- what bytes that read as a card make
abbrev pub judge_read : List ℕ → Outcome Numbers → Outcome Made
judge_read s (Ok n) = judge n (drop records_at s)
judge_read s (Err k) = Err k

-- reading, then building
abbrev pub judge_card : List ℕ → Outcome Made
judge_card s = judge_read s (read_card s)

-- building's refusal comes first
abbrev pub if_taken : Outcome Made → Writing → Writing
if_taken (Err k) w = Err k
if_taken (Ok m) w = w

-- document 01's order: building's, 3 (size), 20
unfoldable pub card_writing : Numbers → List ℕ → ℕ → Writing
card_writing n bytes room = if_taken (judge n bytes) (fitted most_card room (card_text (input_of n bytes)))
