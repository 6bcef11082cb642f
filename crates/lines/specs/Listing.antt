-- The listing of a transcript, and what stands in its place where a card is refused: bytes, each line ended by a newline. Assumes nothing.
use Rattle.std.specs.Prelude.{ℕ, ◌+◌, Bool, List, [], ◌∷◌, ◌++◌, length, if◌then◌else◌}
use Rattle.refusals.specs.Numbers.{number}
use Rattle.refusals.specs.Outcome.{Outcome, Ok, Err}
use Rattle.cigar.specs.Elements.{Element, genome, transcript, total}
use Rattle.spelling.specs.Write.{decimal}
use Rattle.judging.specs.Judging.{Made, elements_made}
use Rattle.card.specs.Layout.{mark}

-- a space and a number
abbrev pub number_text : ℕ → List ℕ
number_text n = 32 ∷ decimal n

-- the three numbers that end a line, and the newline
unfoldable pub numbers_text : ℕ → ℕ → ℕ → List ℕ
numbers_text a b c = number_text a ++ number_text b ++ number_text c ++ 10 ∷ []

-- `+` and `-`
abbrev pub sign_of : Bool → ℕ
sign_of forward = if forward then 43 else 45

-- the mark, strand sign, segment count, genome and transcript length
unfoldable pub listing_header : Bool → ℕ → ℕ → ℕ → List ℕ
listing_header forward n g t = mark ++ 32 ∷ sign_of forward ∷ numbers_text n g t

-- a letter, genome start, transcript start and count
abbrev pub line_text : ℕ → ℕ → Element → List ℕ
line_text g t x = x.letter ∷ numbers_text g t x.count

-- the lines of elements, when all before them go to g and t
unfoldable pub lines_text : ℕ → ℕ → List Element → List ℕ
lines_text g t [] = []
lines_text g t (x ∷ xs) = line_text g t x ++ lines_text (g + genome x) (t + transcript x) xs

-- the listing of elements on a strand
unfoldable pub listing_text : Bool → List Element → List ℕ
listing_text forward es = listing_header forward (length es) (total genome es) (total transcript es) ++ lines_text 0 0 es

-- `refused`, the number, and the newline
unfoldable pub refusal_text : ℕ → List ℕ
refusal_text k = 114 ∷ 101 ∷ 102 ∷ 117 ∷ 115 ∷ 101 ∷ 100 ∷ (number_text k ++ 10 ∷ [])

-- what is written of building's judgment
abbrev pub judgment_text : Outcome Made → List ℕ
judgment_text (Err k) = refusal_text (number k)
judgment_text (Ok m) = listing_text m.forward (elements_made m)
