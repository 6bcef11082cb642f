-- What is known of a text by what the code says of it, and of lent memory by what building left in it.
--     text_is, refused_is   by the answer of writing
--     lent_made             what a card's building left is what it made
-- Assumes nothing.
use Rattle.refusals.specs.declared.Refusal.{Refusal}
use mathlib.Core.Path.{◌≡◌, refl, ap, ap₂, ◌∙◌}
use mathlib.Core.List.{List}
use Prim.Native.Nat.{ℕ}
use native.Mathlib.Omega.{arith}
use lib.ListN.{length}
use Rattle.refusals.specs.Outcome.{Outcome, Ok, Err}
use Rattle.spelling.specs.Write.{written_answer}
use Rattle.segments.specs.Tables.{Tables, tables}
use Rattle.transcript.specs.declared.Head.{Head}
use Rattle.holding.specs.Holding.{lent}
use Rattle.judging.specs.Judging.{Made}
use Rattle.building.specs.Afterwards.{head_of, tables_after, exons_after}
use Rattle.building.proofs.laws.Standing.{beside, Makes}
use Rattle.playing.specs.Played.{lent_by}

-- ---- by the answer of writing

pub record IsText (o : Outcome (List ℕ)) (n : ℕ) : Type 0 where
  pub text : List ℕ
  pub outcome : o ≡ Ok text
  pub size : n ≡ length text

pub text_is : (o : Outcome (List ℕ)) (n : ℕ) → written_answer o ≡ Ok n → IsText o n
text_is (Ok text) n e = record { text = text; outcome = refl; size = cc }
text_is (Err k) n e = let z : ◌≡◌ {A = ℕ} 0 1 = cc in absurd (omega arith)

pub refused_is : (o : Outcome (List ℕ)) (k : Refusal) → written_answer o ≡ Err k → o ≡ Err k
refused_is (Ok text) k e = let z : ◌≡◌ {A = ℕ} 0 1 = cc in absurd (omega arith)
refused_is (Err l) k e = let is : l ≡ k = cc in ap Err is

-- ---- by what building left

module _ {j : Outcome Made} {h : Head} (k : Makes j h) (was : Tables) (numbers : List ℕ) {g t l e : List ℕ} where
  pub lent_made : tables g t l ≡ tables_after j was → e ≡ exons_after j numbers → lent h g t l e ≡ lent_by k.made
  lent_made a b =
      ap (λ (head : Head). beside head (tables g t l) e) k.head_is
      ∙ ap₂ (λ (s : Tables) (ns : List ℕ). beside (head_of k.made) s ns)
      (a ∙ ap (λ (o : Outcome Made). tables_after o was) k.judged)
      (b ∙ ap (λ (o : Outcome Made). exons_after o numbers) k.judged)
