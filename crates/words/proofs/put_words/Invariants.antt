-- `words::put_words` meets its contract. The loop keeps that the words, once what is left is stored to them, are the words that are promised. Assumes nothing.
use Rattle.std.proofs.Common.{◌≡◌, ◌-◌, ◌≤◌, map}
use Rattle.std.proofs.lemmas.List.Edits.{sets}
use Rattle.refusals.specs.Outcome.{no_fault}
use Rattle.words.specs.Words.{word_of, fault_from, elements_at}
use Rattle.words.proofs.put_words.Given as goal

abbrev pub invariant-loop-i : goal.invariant-loop-i
invariant-loop-i l =
    (l.i ≤ l.number) × (fault_from l.counts l.letters l.i (l.number - l.i) ≡ no_fault)
    × (sets l.words l.i (map word_of (elements_at l.counts l.letters l.i (l.number - l.i))) ≡ sets l.initial.words 0 (map word_of (elements_at l.counts l.letters 0 l.number)))
