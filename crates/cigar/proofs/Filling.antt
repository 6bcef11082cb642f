-- What becomes of two tables into which a text is read. Assumes nothing.
use mathlib.Core.Path.{◌≡◌, refl, ◌∙◌}
use mathlib.Core.List.{List}
use Prim.Native.Nat.{ℕ, ◌≤◌, ◌<◌}
use native.Mathlib.Omega.{arith}
use borrow.Author.Tests.{lt-ltb, le-ltb}
use lib.IntN.{ℤ, pos}
use lib.ListN.{length, set, length-set, length-map}
use Rattle.refusals.specs.Numbers.{most_text, most_segments}
use Rattle.refusals.specs.declared.Refusal.{Refusal}
use Rattle.refusals.specs.declared.Refusal.TheVariants.{TooMuch}
use Rattle.refusals.specs.Outcome.{Ok, Err, Answered}
use Rattle.cigar.specs.Elements.{Element}
use Rattle.cigar.specs.Text.{Reading, read_all, elements_in, counted_of}
use Rattle.cigar.specs.laws.Lent.{sets_front}
use Rattle.cigar.specs.Read.{read_text, counts_of, letters_of, counts_after, letters_after, FullLength, Filled}
use Rattle.cigar.specs.laws.Sound.{read_room}

-- the tables stay as long as they are
pub tables_set : {counts : List ℤ} {letters : List ℕ} (i : ℕ) (z : ℤ) (letter : ℕ) → FullLength counts letters → FullLength (set counts i z) (set letters i letter)
tables_set {counts} {letters} i z letter h = record {
  counts_long = length-set counts i z ∙ h.counts_long;
  letters_long = length-set letters i letter ∙ h.letters_long;
}

-- a text alone, by its size
pub read_large : (text : List ℕ) → most_text < length text → read_text text ≡ Err TooMuch
unfolding read_text
read_large text h = rw (lt-ltb most_text (length text) h)

pub read_small : (text : List ℕ) → length text ≤ most_text → read_text text ≡ read_all most_segments text
unfolding read_text
read_small text h = rw (le-ltb most_text (length text) h)

-- elements that were counted are not refused
pub counted_answered : (r : Reading) {n : ℕ} → counted_of r ≡ Ok n → Answered r
counted_answered (Ok es) e = tt
counted_answered (Err k) {n} e = let z : ◌≡◌ {A = ℕ} 0 1 = cc in absurd (omega arith)

-- the tables, when all is stored
pub filled_after : (text : List ℕ) {c : List ℤ} {l : List ℕ} {c₁ : List ℤ} {l₁ : List ℕ} (r : Reading) → read_all most_segments text ≡ r → Answered r → FullLength c l
    → Filled c l c₁ l₁ 0 (elements_in r) → (c₁ ≡ counts_after c r) × (l₁ ≡ letters_after l r)
filled_after text {c} {l} (Ok es) e a t f =
    let few = read_room most_segments text e in (
      f.counts_is ∙ sets_front (counts_of es) c (rw (length-map es (λ (x : Element). pos x.count), t.counts_long) few),
      f.letters_is ∙ sets_front (letters_of es) l (rw (length-map es (λ (x : Element). x.letter), t.letters_long) few),
    )
filled_after text (Err k) e a t f = absurd a

-- the tables of a text that is refused
pub refused_after : (r : Reading) {k : Refusal} (c : List ℤ) (l : List ℕ) → counted_of r ≡ Err k → (c ≡ counts_after c r) × (l ≡ letters_after l r)
refused_after (Ok es) {k} c l e = let z : ◌≡◌ {A = ℕ} 0 1 = cc in absurd (omega arith)
refused_after (Err k) c l e = (refl, refl)
