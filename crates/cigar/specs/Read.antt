-- A CIGAR text alone, read into two lent tables, one of counts and one of letters. Assumes nothing.
use Rattle.std.specs.Prelude.{◌≡◌, List, map, ℕ, ltb, ℤ, pos, length, if◌then◌else◌}
use Rattle.std.proofs.lemmas.List.Edits.{sets}
use Rattle.refusals.specs.Numbers.{most_text, most_segments}
use Rattle.refusals.specs.declared.Refusal.TheVariants.{TooMuch}
use Rattle.refusals.specs.Outcome.{Ok, Err}
use Rattle.cigar.specs.Elements.{Element}
use Rattle.cigar.specs.Text.{Reading, read_all}
use Rattle.cigar.specs.Lent.{at_front}

-- 3 where the text has too many bytes, and then its elements, with room for the most segments
unfoldable pub read_text : List ℕ → Reading
read_text text = if ltb most_text (length text) then Err TooMuch else read_all most_segments text

-- the counts of elements, as the signed numbers of a table
abbrev pub counts_of : List Element → List ℤ
counts_of es = map (λ (x : Element). pos x.count) es

abbrev pub letters_of : List Element → List ℕ
letters_of es = map (λ (x : Element). x.letter) es

-- the lent tables afterwards: the elements are at the front and the rest stays, and where the text is refused all stays
abbrev pub counts_after : List ℤ → Reading → List ℤ
counts_after counts (Ok es) = at_front (counts_of es) counts
counts_after counts (Err k) = counts

abbrev pub letters_after : List ℕ → Reading → List ℕ
letters_after letters (Ok es) = at_front (letters_of es) letters
letters_after letters (Err k) = letters

-- both tables have a place for each segment
pub record FullLength (counts : List ℤ) (letters : List ℕ) : Type 0 where
  pub counts_long : length counts ≡ most_segments
  pub letters_long : length letters ≡ most_segments

-- the tables c₀ and l₀ become c₁ and l₁: elements are stored from place n on
pub record Filled (c₀ : List ℤ) (l₀ : List ℕ) (c₁ : List ℤ) (l₁ : List ℕ) (n : ℕ) (es : List Element) : Type 0 where
  pub counts_is : c₁ ≡ sets c₀ n (counts_of es)
  pub letters_is : l₁ ≡ sets l₀ n (letters_of es)
