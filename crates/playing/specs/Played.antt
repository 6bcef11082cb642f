-- A log replayed on the transcript that a card makes, and the two as one input of bytes. Assumes nothing.
use Rattle.std.specs.Prelude.{ℕ, ◌+◌, ◌-◌, List, ltb, length, take, drop, if◌then◌else◌}
use Rattle.refusals.specs.Numbers.{number, most_segments, most_card}
use Rattle.refusals.specs.declared.Refusal.TheVariants.{TooMuch, NoCard}
use Rattle.refusals.specs.Outcome.{Outcome, Ok, Err, and_then}
use Rattle.fields.specs.Fields.{le32}
use Rattle.segments.specs.Tables.{padded, tables_of}
use Rattle.transcript.specs.Building.{numbers_of}
use Rattle.holding.specs.Holding.{Lent}
use Rattle.judging.specs.Judging.{Made, elements_made}
use Rattle.building.specs.Afterwards.{head_of}
use Rattle.card.specs.Writing.{judge_card}
use Rattle.lines.specs.Listing.{refusal_text}
use Rattle.playback.specs.Replay.{replayed}

-- what building leaves of what it made: a head beside its tables and exon numbers
abbrev pub lent_by : Made → Lent
lent_by m = record { head = head_of m; tables = tables_of (elements_made m); exons = padded most_segments (numbers_of m.forward m.exon_list) }

-- the card's refusals, then the log's
unfoldable pub played : List ℕ → List ℕ → Outcome (List ℕ)
played card log = and_then (judge_card card) (λ (m : Made). replayed (lent_by m) log)

-- the lines, or the line of a refusal
abbrev pub played_text : Outcome (List ℕ) → List ℕ
played_text (Ok text) = text
played_text (Err k) = refusal_text (number k)

-- ---- the two as one input: the card's size, a number of 32 bits, the card, the log

abbrev pub size_bytes : ℕ
size_bytes = 4

-- where the card ends: 3 where its size is above the largest, 21 where it is cut off
unfoldable pub card_end : List ℕ → Outcome ℕ
card_end s =
    if ltb (length s) size_bytes then Err NoCard
    else if ltb most_card (le32 s 0) then Err TooMuch
    else if ltb (length s - size_bytes) (le32 s 0) then Err NoCard
    else Ok (size_bytes + le32 s 0)

-- the card of an input whose card ends there
abbrev pub card_to : List ℕ → ℕ → List ℕ
card_to s to = take (to - size_bytes) (drop size_bytes s)

-- what the card makes
unfoldable pub input_made : List ℕ → Outcome Made
input_made s = and_then (card_end s) (λ (to : ℕ). judge_card (card_to s to))

-- what is played of both
unfoldable pub input_played : List ℕ → Outcome (List ℕ)
input_played s = and_then (card_end s) (λ (to : ℕ). played (card_to s to) (drop to s))
