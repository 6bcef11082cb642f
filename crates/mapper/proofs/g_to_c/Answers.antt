-- `mapper::g_to_c` meets its contract: what is lent is known once; the first mapping is asked wholly, and the second on its answer asked again. Assumes nothing.
use mathlib.Core.Path.{sym, ap, ◌∙◌}
use Rattle.std.proofs.lemmas.Result.{err_from_is_err_and}
use Rattle.refusals.specs.Outcome.{Ok}
use Rattle.mapper.specs.Asking.{ask_g_to_c, ask_g_to_n}
use Rattle.knowing.specs.laws.Known.{known_lies, ask_length, ask_broken}
use Rattle.mapper.specs.laws.Lying.{lying_g_to_c}
use Rattle.mapper.proofs.g_to_c.Goals as goal

pub last-length-requires : goal.last-length-requires
last-length-requires c = (known_lies _ _ _ (sym c.known_of.ensures ∙ c.in_ok-cds.was ∙ ap Ok c.in-Aligned.is)).sound.count_to

pub g_to_n-n-requires : goal.g_to_n-n-requires
g_to_n-n-requires c = (known_lies _ _ _ (sym c.known_of.ensures ∙ c.in_ok-cds.was ∙ ap Ok c.in-Aligned.is)).sound

pub returns-in-Aligned : goal.returns-in-Aligned
returns-in-Aligned c =
    rw (c.last-length.ensures, c.g_to_n-n.ensures) at c.then_n_to_c.ensures ∙ sym (lying_g_to_c _ _ _ (sym c.known_of.ensures ∙ c.in_ok-cds.was ∙ ap Ok c.in-Aligned.is) c.args.strict _)

pub returns-in-OfLength : goal.returns-in-OfLength
unfolding ask_g_to_c ask_g_to_n
returns-in-OfLength c = sym (ask_length _ _ (sym c.known_of.ensures ∙ c.in_ok-cds.was ∙ ap Ok c.in-OfLength.is))

pub returns-in_err-cds : goal.returns-in_err-cds
returns-in_err-cds c =
    let p = err_from_is_err_and c.from_residual.result c.from_residual.ensures.1 in
    rw (p.1, p.2) (sym (ask_broken _ _ (sym c.known_of.ensures ∙ c.in_err-cds.was)))
