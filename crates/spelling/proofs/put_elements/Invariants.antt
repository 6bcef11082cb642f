-- `spelling::put_elements` meets its contract. The loop keeps that the buffer, once what is left is stored to it, is the buffer that is promised. Assumes nothing.
use Rattle.std.proofs.Common.{◌≡◌, List, ℕ, ◌+◌, ◌≤◌, length}
use Rattle.std.proofs.lemmas.List.Edits.{sets}
use Rattle.refusals.specs.Outcome.{Answered}
use Rattle.cigar.specs.Text.{Reading, elements_in}
use Rattle.spelling.specs.Write.{elements_text, elements_given}
use Rattle.spelling.proofs.Writing.{left_of}
use Rattle.spelling.proofs.put_elements.Given as goal

-- the text of a reading's elements
abbrev pub in_text : Reading → List ℕ
in_text r = elements_text (elements_in r)

abbrev pub invariant-loop-i : goal.invariant-loop-i
invariant-loop-i l =
    (l.i ≤ l.number) × Answered (left_of l.counts l.letters l.number l.i)
    × (l.at + length (in_text (left_of l.counts l.letters l.number l.i)) ≤ length l.buffer)
    × (sets l.buffer l.at (in_text (left_of l.counts l.letters l.number l.i)) ≡ sets l.initial.buffer 0 (in_text (elements_given l.counts l.letters l.number)))
