-- `mapper::is_g_interval_in_bounds` meets its contract: what is lent is known once, and each arm is what the question then is. Assumes nothing.
use mathlib.Core.Path.{sym, ap, ◌∙◌}
use Rattle.std.proofs.lemmas.Result.{err_from_is_err_and}
use Rattle.refusals.specs.Outcome.{Ok}
use Rattle.mapper.specs.Asking.{ask_in_bounds}
use Rattle.knowing.specs.laws.Known.{known_lies, ask_length, ask_broken}
use Rattle.mapper.specs.laws.Lying.{lying_in_bounds}
use Rattle.mapper.proofs.is_g_interval_in_bounds.Goals as goal

pub is_in_bounds-requires : goal.is_in_bounds-requires
is_in_bounds-requires c = (known_lies _ _ _ (sym c.known_of.ensures ∙ c.in_ok-at.was ∙ ap Ok c.in-Aligned.is)).sound.count_to

pub returns-in-Aligned : goal.returns-in-Aligned
returns-in-Aligned c =
    c.is_in_bounds.ensures ∙ sym (lying_in_bounds _ _ _ (sym c.known_of.ensures ∙ c.in_ok-at.was ∙ ap Ok c.in-Aligned.is) _)

pub returns-in-OfLength : goal.returns-in-OfLength
unfolding ask_in_bounds
returns-in-OfLength c = sym (ask_length _ _ (sym c.known_of.ensures ∙ c.in_ok-at.was ∙ ap Ok c.in-OfLength.is))

pub returns-in_err-at : goal.returns-in_err-at
returns-in_err-at c =
    let p = err_from_is_err_and c.from_residual.result c.from_residual.ensures.1 in
    rw (p.1, p.2) (sym (ask_broken _ _ (sym c.known_of.ensures ∙ c.in_err-at.was)))
