-- Answers as the ten words that a row records of them: what an answer lacks is 0. Assumes nothing.
use Rattle.std.specs.Prelude.{ℕ, min, List, [], ◌∷◌, ℤ, pos}
use Rattle.layout.specs.declared.lay.Answer.{Answer}
use Rattle.layout.specs.declared.lay.Length.{Length}
use Rattle.layout.specs.declared.lay.Said.{Said}

abbrev pub six_words : ℤ → ℤ → ℤ → ℤ → ℤ → ℤ → List ℤ
six_words a b c d e f = a ∷ b ∷ c ∷ d ∷ e ∷ f ∷ pos 0 ∷ pos 0 ∷ pos 0 ∷ pos 0 ∷ []

-- a refusal's number, or 0, and one number more
abbrev pub two_words : ℕ → ℤ → List ℤ
two_words number z = six_words (pos number) z (pos 0) (pos 0) (pos 0) (pos 0)

-- the number, the mark, and base, offset, star and exon of both ends
abbrev pub answer_words : Answer → List ℤ
answer_words a =
    pos a.number ∷ pos a.mark ∷ a.start.base ∷ a.start.offset ∷ pos a.start.star ∷ pos a.start.exon ∷ a.end.base ∷ a.end.offset ∷ pos a.end.star ∷ pos a.end.exon ∷ []

abbrev pub said_words : Said → List ℤ
said_words a = two_words a.number (pos a.yes)

-- a size; one that no word holds is a number that no word is
abbrev pub size_word : ℕ → ℤ
size_word n = pos (min n 4294967296)

abbrev pub length_words : Length → List ℤ
length_words a = two_words a.number (size_word a.length)
