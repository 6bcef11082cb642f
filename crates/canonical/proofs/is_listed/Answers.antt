-- `canonical::is_listed` meets its contract: the closure's test is the definition's. Assumes nothing.
use Rattle.std.proofs.Common.{eqb, rules, tests}
use Rattle.std.proofs.lemmas.Iterator.{YieldsList-from_slice}
use Rattle.std.proofs.lemmas.Iterator.Search.{any_from_yields_List}
use Rattle.refusals.specs.Numbers.{number}
use Rattle.canonical.proofs.is_listed.Goals as goal

pub returns : goal.returns
returns c = any_from_yields_List (λ k. eqb c.args.n (number k)) _ _ _ c.any.ensures.ran (YieldsList-from_slice c.args.refusals.now cc) (λ x b q k. search (rules, tests))
