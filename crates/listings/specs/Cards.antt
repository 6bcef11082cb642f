-- Cards that stand one after the other, each with its size before it, and what listing them in turn leaves in lent memory. Assumes nothing.
use Rattle.std.specs.Prelude.{ℕ, zero, suc, ◌≡◌, ◌+◌, ◌-◌, ◌≤◌, Bool, ◌||◌, List, [], ◌∷◌, ltb, length, take, drop, if◌then◌else◌}
use Rattle.fields.specs.Fields.{le32}
use Rattle.cigar.specs.Lent.{at_front}
use Rattle.segments.specs.Tables.{Tables}
use Rattle.building.specs.Afterwards.{tables_after, exons_after}
use Rattle.card.specs.Writing.{judge_card}
use Rattle.lines.specs.Listing.{judgment_text}

-- no whole card is left: its size is a number of 32 bits
unfoldable pub is_cut : List ℕ → Bool
is_cut left = ltb (length left) 4 || ltb (length left - 4) (le32 left 0)

-- k cards at most
unfoldable pub cards_from : ℕ → List ℕ → List (List ℕ)
cards_from zero left = []
cards_from (suc k) left = if is_cut left then [] else take (le32 left 0) (drop 4 left) ∷ cards_from k (drop (4 + le32 left 0) left)

-- there are no more cards than bytes
abbrev pub cards_in : List ℕ → List (List ℕ)
cards_in s = cards_from (length s) s

-- the tables, the exon numbers, and the buffer that each card's text is put at the front of
unfoldable pub tables_all : List (List ℕ) → Tables → Tables
tables_all [] t = t
tables_all (card ∷ cards) t = tables_all cards (tables_after (judge_card card) t)

unfoldable pub exons_all : List (List ℕ) → List ℕ → List ℕ
exons_all [] e = e
exons_all (card ∷ cards) e = exons_all cards (exons_after (judge_card card) e)

unfoldable pub text_all : List (List ℕ) → List ℕ → List ℕ
text_all [] text = text
text_all (card ∷ cards) text = text_all cards (at_front (judgment_text (judge_card card)) text)

-- listing some of the cards, the first ones, leaves them so
abbrev pub LeavesAfterSome : List (List ℕ) → Tables → List ℕ → List ℕ → Tables → List ℕ → List ℕ → Type 0
LeavesAfterSome cards t e text t' e' text' =
    (k : ℕ) × (k ≤ length cards) × (t' ≡ tables_all (take k cards) t) × (e' ≡ exons_all (take k cards) e) × (text' ≡ text_all (take k cards) text)
