-- `journal::is_marked` meets its contract: `starts_with` compares the three bytes of the mark, and a byte that is not there is none of them. Assumes nothing.
use Rattle.std.proofs.Common.{◌≡◌, refl, List, [], ◌∷◌, ℕ, eqb, arith, ◌∙◌}
use Rattle.std.proofs.lemmas.Bool.Decides.{nat_tests}
use Rattle.std.specs.List.{starts_with}
use Rattle.journal.specs.Layout.{mark}
use Rattle.journal.specs.Logs.{is_marked}
use Rattle.journal.proofs.is_marked.Goals as goal

begins : (s : List ℕ) → starts_with eqb s mark ≡ is_marked s
unfolding is_marked
begins [] = refl
begins (a ∷ []) = grind (arith, nat_tests)
begins (a ∷ b ∷ []) = grind (arith, nat_tests)
begins (a ∷ b ∷ c ∷ s) = grind (arith, nat_tests)

pub returns : goal.returns
returns c = c.starts_with.ensures.value ∙ begins c.args.log.now
