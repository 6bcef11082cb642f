-- All letters of a list are bases where each is. Assumes nothing.
use Rattle.std.specs.Prelude.{◌≡◌, refl, ℕ, List, [], ◌∷◌, ◌&&◌, Bool}
use Rattle.std.proofs.Common.{rules, tests, ap, ◌∙◌}
use Rattle.std.specs.List.{list_all}
use Rattle.std.proofs.lemmas.Iterator.{YieldsList-from_slice}
use Rattle.std.proofs.lemmas.Iterator.Search.{all_from_yields_List}
use Rattle.strands.specs.Turned.{is_base, are_bases}
use Rattle.strands.proofs.turn.are_bases.Goals as goal

each : (s : List ℕ) → list_all is_base s ≡ are_bases s
unfolding are_bases
each [] = refl
each (b ∷ s) = ap (λ (t : Bool). is_base b && t) (each s)

pub returns : goal.returns
unfolding is_base
returns c =
    all_from_yields_List is_base _ _ _ c.all.ensures.ran (YieldsList-from_slice c.args.allele.now (cc)) (λ x b q k. search (rules, tests))
    ∙ each c.args.allele.now
