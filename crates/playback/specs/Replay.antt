-- A log replayed on a transcript that is lent: which answers differ, and what is written of them. Assumes nothing.
use Rattle.std.specs.Prelude.{ℕ, ◌+◌, Bool, false, not, ◌&&◌, ◌||◌, List, [], ◌∷◌, ◌++◌, eqb, ltb, length, if◌then◌else◌}
use Rattle.refusals.specs.declared.Refusal.TheVariants.{NoRoom}
use Rattle.refusals.specs.Outcome.{Outcome, Ok, Err, and_then, through}
use Rattle.whole.specs.Whole.{eq_z}
use Rattle.transcript.specs.Transcript.{Source}
use Rattle.holding.specs.Holding.{Lent, checked}
use Rattle.layout.specs.declared.lay.Position.{Position}
use Rattle.layout.specs.declared.lay.Answer.{Answer}
use Rattle.journal.specs.Logs.{read_log}
use Rattle.entries.specs.declared.Entry.{Entry}
use Rattle.asking.specs.Asking.{asked}
use Rattle.playback.specs.Lines.{line_of, lines_of, index_if}

-- ---- which answers differ

unfoldable pub same_position : Position → Position → Bool
same_position a b = eq_z a.base b.base && eq_z a.offset b.offset && eqb a.star b.star && eqb a.exon b.exon

-- in every field: the exon numbers, and the refusal's number, too
unfoldable pub same_answer : Answer → Answer → Bool
same_answer a b = eqb a.number b.number && eqb a.mark b.mark && same_position a.start b.start && same_position a.end b.end

-- the answer recorded is not what is said now
unfoldable pub differs : Lent → Entry → Bool
differs x e = not (same_answer e.answer (asked x e.question))

-- the indices of the entries whose answers differ, when the first is counted i
unfoldable pub indices_from : Lent → ℕ → List Entry → List ℕ
indices_from x i [] = []
indices_from x i (e ∷ es) = index_if (differs x e) i ++ indices_from x (i + 1) es

-- counted from 0
abbrev pub differing : Lent → List Entry → List ℕ
differing x es = indices_from x 0 es

-- k is one of the indices
abbrev pub is_listed : ℕ → List ℕ → Bool
is_listed k [] = false
is_listed k (i ∷ is) = eqb k i || is_listed k is

-- ---- what is written

-- a line for each index, then the total
unfoldable pub replay_text : List ℕ → List ℕ
replay_text indices = lines_of indices ++ line_of (length indices)

-- 23, 3, 35
unfoldable pub replayed : Lent → List ℕ → Outcome (List ℕ)
replayed x log = checked x (λ (s : Source). through (λ (es : List Entry). replay_text (differing x es)) (read_log log))

-- 20 where a text is longer than the buffer
abbrev pub roomed : ℕ → List ℕ → Outcome (List ℕ)
roomed room text = if ltb room (length text) then Err NoRoom else Ok text

-- the text of a log, for a buffer of that many bytes: 23, 3, 35, 20
unfoldable pub replaying : Lent → List ℕ → ℕ → Outcome (List ℕ)
replaying x log room = and_then (replayed x log) (roomed room)
