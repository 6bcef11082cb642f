-- `mapper::c_to_g` meets its contract: what is lent is known once; the first mapping is asked wholly, and the second on its answer asked again, or 18. Assumes nothing.
use mathlib.Core.Path.{sym, ap, ◌∙◌}
use Rattle.std.proofs.lemmas.Result.{err_from_is_err_and}
use Rattle.refusals.specs.Outcome.{Ok}
use Rattle.mapper.specs.Asking.{ask_c_to_g, ask_c_to_n, ask_n_to_g}
use Rattle.knowing.specs.laws.Known.{known_lies, ask_length, ask_broken}
use Rattle.mapper.specs.laws.Lying.{lying_c_to_g}
use Rattle.mapper.proofs.c_to_g.Goals as goal

pub last-length-requires : goal.last-length-requires
last-length-requires c = (known_lies _ _ _ (sym c.known_of.ensures ∙ c.in_ok-cds.was ∙ ap Ok c.in-Aligned.is)).sound.count_to

pub then_n_to_g-requires : goal.then_n_to_g-requires
then_n_to_g-requires c = (known_lies _ _ _ (sym c.known_of.ensures ∙ c.in_ok-cds.was ∙ ap Ok c.in-Aligned.is)).sound

pub returns-in-Aligned : goal.returns-in-Aligned
returns-in-Aligned c =
    rw (c.c_to_n-n.ensures, c.last-length.ensures) at c.then_n_to_g.ensures ∙ sym (lying_c_to_g _ _ _ (sym c.known_of.ensures ∙ c.in_ok-cds.was ∙ ap Ok c.in-Aligned.is) c.args.strict _)

pub returns-in-OfLength : goal.returns-in-OfLength
unfolding ask_c_to_g ask_c_to_n ask_n_to_g
returns-in-OfLength c =
    rw c.c_to_n.ensures at c.then_no_genome.ensures ∙ sym (ask_length _ _ (sym c.known_of.ensures ∙ c.in_ok-cds.was ∙ ap Ok c.in-OfLength.is))

pub returns-in_err-cds : goal.returns-in_err-cds
returns-in_err-cds c =
    let p = err_from_is_err_and c.from_residual.result c.from_residual.ensures.1 in
    rw (p.1, p.2) (sym (ask_broken _ _ (sym c.known_of.ensures ∙ c.in_err-cds.was)))
