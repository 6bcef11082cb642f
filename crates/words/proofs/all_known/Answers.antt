-- `words::all_known` meets its contract: what `all` answers of the words is the definition's conjunction. Assumes nothing.
use Rattle.std.proofs.Common.{◌≡◌, ℕ, Bool, ◌&&◌, List, [], ◌∷◌, refl, ap, ◌∙◌, rules, tests}
use Rattle.std.specs.List.{list_all}
use Rattle.std.proofs.lemmas.Iterator.{YieldsList-from_slice}
use Rattle.std.proofs.lemmas.Iterator.Search.{all_from_yields_List}
use Rattle.words.specs.Words.{is_known, all_known}
use Rattle.words.proofs.all_known.Goals as goal

each_known : (words : List ℕ) → list_all is_known words ≡ all_known words
unfolding all_known
each_known [] = refl
each_known (w ∷ ws) = ap (λ (b : Bool). is_known w && b) (each_known ws)

pub returns : goal.returns
returns c =
    let words = c.args.words.now in
    all_from_yields_List is_known _ _ _ c.all.ensures.ran (YieldsList-from_slice words cc) (λ x b q k. search (rules, tests)) ∙ each_known words
