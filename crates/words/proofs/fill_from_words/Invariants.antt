-- `words::fill_from_words` meets its contract. What is left to store makes the tables that are promised, before and after a turn. Assumes nothing.
use Rattle.std.proofs.Common.{map, drop}
use Rattle.std.proofs.lemmas.List.Edits.{sets}
use Rattle.cigar.specs.Read.{counts_of, letters_of, Filled}
use Rattle.words.specs.Words.{element_of_word}
use Rattle.words.proofs.fill_from_words.Given as goal

abbrev pub invariant-loop-i : goal.invariant-loop-i
invariant-loop-i l =
    Filled l.counts l.letters
    (sets l.initial.counts 0 (counts_of (map element_of_word l.words)))
    (sets l.initial.letters 0 (letters_of (map element_of_word l.words)))
    l.i (map element_of_word (drop l.i l.words))
