-- `mapper::n_to_c` meets its contract: what is lent is known once, its length is the last entry or the head's number, and each arm is what the question then is. Assumes nothing.
use mathlib.Core.Path.{sym, ap, ◌∙◌}
use Rattle.std.proofs.lemmas.Result.{err_from_is_err_and}
use Rattle.refusals.specs.Outcome.{Ok}
use Rattle.mapper.specs.Asking.{ask_n_to_c}
use Rattle.knowing.specs.laws.Known.{known_lies, ask_length, ask_broken}
use Rattle.mapper.specs.laws.Lying.{lying_n_to_c}
use Rattle.mapper.proofs.n_to_c.Goals as goal

pub last-requires : goal.last-requires
last-requires c = (known_lies _ _ _ (sym c.known_of.ensures ∙ c.in_ok-cds.was ∙ ap Ok c.in-Aligned.is)).sound.count_to

pub returns-in-Aligned : goal.returns-in-Aligned
returns-in-Aligned c =
    rw c.last.ensures at c.n_to_c.ensures ∙ sym (lying_n_to_c _ _ _ (sym c.known_of.ensures ∙ c.in_ok-cds.was ∙ ap Ok c.in-Aligned.is) c.args.strict _)

pub returns-in-OfLength : goal.returns-in-OfLength
unfolding ask_n_to_c
returns-in-OfLength c =
    c.n_to_c-in-OfLength.ensures ∙ sym (ask_length _ _ (sym c.known_of.ensures ∙ c.in_ok-cds.was ∙ ap Ok c.in-OfLength.is))

pub returns-in_err-cds : goal.returns-in_err-cds
returns-in_err-cds c =
    let p = err_from_is_err_and c.from_residual.result c.from_residual.ensures.1 in
    rw (p.1, p.2) (sym (ask_broken _ _ (sym c.known_of.ensures ∙ c.in_err-cds.was)))
