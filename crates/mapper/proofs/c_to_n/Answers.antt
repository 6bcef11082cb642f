-- `mapper::c_to_n` meets its contract: what is lent is known once, its length is the last entry or the head's number, and each arm is what the question then is. Assumes nothing.
use mathlib.Core.Path.{sym, ap, ◌∙◌}
use Rattle.std.proofs.lemmas.Result.{err_from_is_err_and}
use Rattle.refusals.specs.Outcome.{Ok}
use Rattle.mapper.specs.Asking.{ask_c_to_n}
use Rattle.knowing.specs.laws.Known.{known_lies, ask_length, ask_broken}
use Rattle.mapper.specs.laws.Lying.{lying_c_to_n}
use Rattle.mapper.proofs.c_to_n.Goals as goal

pub last-requires : goal.last-requires
last-requires c = (known_lies _ _ _ (sym c.known_of.ensures ∙ c.in_ok-cds.was ∙ ap Ok c.in-Aligned.is)).sound.count_to

pub returns-in-Aligned : goal.returns-in-Aligned
returns-in-Aligned c =
    rw c.last.ensures at c.c_to_n.ensures ∙ sym (lying_c_to_n _ _ _ (sym c.known_of.ensures ∙ c.in_ok-cds.was ∙ ap Ok c.in-Aligned.is) c.args.strict _)

pub returns-in-OfLength : goal.returns-in-OfLength
unfolding ask_c_to_n
returns-in-OfLength c =
    c.c_to_n-in-OfLength.ensures ∙ sym (ask_length _ _ (sym c.known_of.ensures ∙ c.in_ok-cds.was ∙ ap Ok c.in-OfLength.is))

pub returns-in_err-cds : goal.returns-in_err-cds
returns-in_err-cds c =
    let p = err_from_is_err_and c.from_residual.result c.from_residual.ensures.1 in
    rw (p.1, p.2) (sym (ask_broken _ _ (sym c.known_of.ensures ∙ c.in_err-cds.was)))
