-- A turned allele is as long as the allele. Assumes nothing.
use Rattle.std.proofs.Common.{◌≡◌, ℕ, List, length, refl, sym, ap, ◌∙◌, arith, rules}
use Rattle.std.proofs.Math.Decide.{dec_lt}
use Rattle.refusals.specs.Outcome.{through}
use Rattle.whole.specs.laws.Whole.{by_test}
use Rattle.strands.specs.Turned.{are_bases, turning}
use Rattle.strands.specs.laws.Turning.{turned_length, turning_other, turning_long, turning_fits}
use Rattle.results.specs.Results.{length_laid, counted_laid, text_laid}
use Rattle.entry.proofs.strand.txc_turn.Goals as goal

laid : (s : List ℕ) (room : ℕ) → counted_laid (through (λ _. length s) (turning s room)) ≡ text_laid (turning s room)
laid s room =
    by_test (are_bases s)
    (λ e.
    elim (dec_lt room (length s)) [
      | yes l ↦ rw (turning_long s room e l) refl
      | no n ↦ rw (turning_fits s room e (omega arith)) (ap length_laid (sym (turned_length s)))
    ])
    (λ e. rw (turning_other s room e) refl)

pub returns-clause-value : goal.returns-clause-value
returns-clause-value c =
    let a = c.args in
    let told : c.map.result ≡ through (λ _. length a.allele.now) (turning a.allele.now (length a.buffer.now)) = search rules in
    c.counted_laid.ensures ∙ ap counted_laid told ∙ laid a.allele.now (length a.buffer.now)
