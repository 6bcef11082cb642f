-- `canonical::is_holdable` meets its contract: the kind's number is the question's, and the tests are those of the definition. Assumes nothing.
use Rattle.std.proofs.Common.{sym, arith}
use Rattle.std.proofs.lemmas.Grind.{common_steps}
use Rattle.canonical.specs.Canonical.{holdable}
use Rattle.canonical.proofs.KindNumbers.{number_back, kind_small}
use Rattle.canonical.proofs.is_holdable.Goals as goal

pub returns : goal.returns
unfolding holdable
returns c =
    let is = number_back c.args.q.kind (sym c.in-Ok.ensures) in
    let small = kind_small c.in-Ok.kind in
    grind (arith, common_steps)
