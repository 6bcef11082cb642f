-- `mapper::is_coding_transcript` meets its contract: what is lent is known once, and a transcript of either kind codes where it has a CDS. Assumes nothing.
use mathlib.Core.Path.{sym, ap, ◌∙◌}
use Rattle.std.proofs.lemmas.Result.{err_from_is_err_and}
use Rattle.refusals.specs.Outcome.{Ok}
use Rattle.mapper.specs.Asking.{ask_coding}
use Rattle.mapper.specs.laws.Lying.{lying_coding}
use Rattle.knowing.specs.laws.Known.{ask_length, ask_broken}
use Rattle.mapper.proofs.is_coding_transcript.Goals as goal

pub returns-in-Aligned : goal.returns-in-Aligned
returns-in-Aligned c =
    ap Ok c.is_coding.ensures ∙ sym (lying_coding _ _ _ (sym c.known_of.ensures ∙ c.in_ok-cds.was ∙ ap Ok c.in-Aligned.is))

pub returns-in-OfLength : goal.returns-in-OfLength
unfolding ask_coding
returns-in-OfLength c =
    ap Ok c.is_coding-in-OfLength.ensures ∙ sym (ask_length _ _ (sym c.known_of.ensures ∙ c.in_ok-cds.was ∙ ap Ok c.in-OfLength.is))

pub returns-in_err-cds : goal.returns-in_err-cds
returns-in_err-cds c =
    let p = err_from_is_err_and c.from_residual.result c.from_residual.ensures.1 in
    rw (p.1, p.2) (sym (ask_broken _ _ (sym c.known_of.ensures ∙ c.in_err-cds.was)))
