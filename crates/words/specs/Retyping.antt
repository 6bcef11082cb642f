-- The CIGAR text that an aligner shows of its words, and how it is retyped by hand: what the words are held against. Assumes nothing.
use Rattle.std.specs.Prelude.{ℕ, List, [], ◌∷◌, ◌++◌, map}
use Rattle.spelling.specs.Write.{decimal}
use Rattle.words.specs.Words.{bam_letter, exchanged, length_in, code_in}

-- each length in decimal, 1 too, and BAM's own letter. (For no words at all SAM has `*`, which no one retypes.)
unfoldable pub aligners_text : List ℕ → List ℕ
aligners_text [] = []
aligners_text (w ∷ ws) = decimal (length_in w) ++ bam_letter (code_in w) ∷ aligners_text ws

-- I and D are exchanged
abbrev pub retyped : List ℕ → List ℕ
retyped text = map exchanged text
