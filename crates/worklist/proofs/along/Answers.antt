-- `worklist::along` meets its contract: what does not hold together is refused first. Assumes nothing.
use mathlib.Core.Path.{sym, ◌∙◌}
use Rattle.std.proofs.lemmas.Result.{err_from_is_err_and}
use Rattle.worklist.proofs.Judging.{along_broken}
use Rattle.worklist.proofs.along.Goals as goal

pub returns-in_err-at : goal.returns-in_err-at
returns-in_err-at c =
    let p = err_from_is_err_and c.from_residual.result c.from_residual.ensures.1 in
    rw (p.1, p.2) (sym (along_broken _ c.args.rises (sym c.known_of.ensures ∙ c.in_err-at.was)))
