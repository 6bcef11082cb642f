-- `cigar::along_transcript` meets its contract: `I` and `N` go nowhere along the transcript, and a letter that is neither goes its whole count (`transcript_whole`). Assumes nothing.
use mathlib.Core.Logic.{⊎_elim, inl, inr}
use mathlib.Core.Path.{refl}
use native.Mathlib.Omega.{arith}
use Rattle.cigar.specs.Elements.{kind_of}
use Rattle.cigar.specs.laws.Letters.{transcript_whole}
use Rattle.cigar.proofs.along_transcript.Goals as goal

pub returns-in-73 : goal.returns-in-73
unfolding kind_of
returns-in-73 c = ⊎_elim (λ e. rw e (refl, omega arith)) (λ e. rw e (refl, omega arith)) c.in-73.is

pub returns-in_default : goal.returns-in_default
returns-in_default c =
    let n = c.in_default.in_default-own.rest.1 in
    (transcript_whole _ _ (λ e. n (inl e)) (λ e. n (inr e)), omega arith)
