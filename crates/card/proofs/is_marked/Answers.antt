-- `card::is_marked` meets its contract: `starts_with` compares the three bytes of the mark.
-- Assumes nothing.
use Rattle.std.proofs.Common.{◌≡◌, refl, List, [], ◌∷◌, ℕ, ◌≤◌, length, eqb, arith, ◌∙◌}
use Rattle.std.proofs.lemmas.Bool.Decides.{nat_tests}
use Rattle.std.specs.List.{starts_with}
use borrow.Author.Tests.{le-leb, lt-leb}
use Rattle.card.specs.Layout.{mark}
use Rattle.card.specs.Card.{is_marked}
use Rattle.card.proofs.is_marked.Goals as goal

begins : (s : List ℕ) → 5 ≤ length s → starts_with eqb s mark ≡ is_marked s
unfolding is_marked
begins [] h = absurd (omega arith)
begins (a ∷ []) h = absurd (omega arith)
begins (a ∷ b ∷ []) h = absurd (omega arith)
begins (a ∷ b ∷ c ∷ s) h = rw (le-leb 5 (length (a ∷ b ∷ c ∷ s)) h) (grind (arith, nat_tests))

pub returns-then-card-ge-STRAND_AT : goal.returns-then-card-ge-STRAND_AT
returns-then-card-ge-STRAND_AT c = c.starts_with.ensures.value ∙ begins c.args.card.now c.if-card-ge-STRAND_AT.true

pub returns-else-card-ge-STRAND_AT : goal.returns-else-card-ge-STRAND_AT
unfolding is_marked
returns-else-card-ge-STRAND_AT c = rw (lt-leb 5 (length c.args.card.now) c.if-card-ge-STRAND_AT.false) refl
