-- What is counted are the pairs from the back whose two bytes are the same. Assumes nothing.
use Rattle.std.specs.Prelude.{ℕ, eqb, reverse}
use Rattle.std.proofs.Common.{rules, tests, ◌∙◌}
use Rattle.std.specs.List.{zip}
use Rattle.std.proofs.lemmas.Iterator.{YieldsList-from_zip}
use Rattle.std.proofs.lemmas.Iterator.Adapters.{YieldsList-from_rev_slice}
use Rattle.std.proofs.lemmas.Iterator.Consumers.{count_from_yields_List, YieldsList-at}
use Rattle.std.proofs.lemmas.Iterator.Search.{YieldsList-from_take_while}
use Rattle.std.proofs.lemmas.List.Folds.{length-prefix_len}
use Rattle.sequences.specs.Alleles.{suffix_len}
use Rattle.sequences.proofs.Agreeing.{common_pairs}
use Rattle.sequences.proofs.trim_common_suffixes.Goals as goal

pub returns : goal.returns
unfolding suffix_len
returns c =
    let a = c.args in
    count_from_yields_List _ _ c.count.ensures.ran
    (YieldsList-from_take_while _ (λ (p : ℕ × ℕ). eqb p.0 p.1)
    (YieldsList-at c.take_while.ensures.source
    (YieldsList-from_zip
    (YieldsList-at c.zip-from_back.ensures.first (YieldsList-from_rev_slice a.reference.now (cc)))
    (YieldsList-from_rev_slice a.alternative.now (search rules))))
    c.take_while.ensures.closure c.take_while.ensures.done (λ x b q k. search (rules, tests)))
    ∙ length-prefix_len _ (zip (reverse a.reference.now) (reverse a.alternative.now))
    ∙ common_pairs (reverse a.reference.now) (reverse a.alternative.now)
