-- `lines::put_refusal` meets its contract: seven bytes, the number, and the newline.
-- Assumes nothing.
use Rattle.std.proofs.Common.{◌≡◌, refl, sym, ap, ◌∙◌, List, ℕ, ◌++◌, drop, arith}
use Rattle.refusals.specs.Numbers.{number}
use Rattle.cigar.specs.Bytes.{ascii}
use Rattle.cigar.specs.laws.Lent.{sets_front}
use Rattle.lines.specs.Listing.{number_text, refusal_text}
use Rattle.card.specs.Putting.{Put}
use Rattle.card.specs.laws.Putting.{byte_put, then_put}
use Rattle.lines.proofs.put_refusal.Goals as goal

pub returns-clause-put : goal.returns-clause-put
unfolding refusal_text
returns-clause-put c =
    let buffer = c.args.buffer.now in
    let n : c.from.result ≡ number c.args.refusal = c.from.ensures ∙ c.number.ensures in
    let word = ap (λ (l : List ℕ). l ++ drop 7 buffer) c.copy_from_slice.ensures.after ∙ sym (sets_front (ascii "refused") buffer (omega arith)) in
    let digits : Put _ c.put_number-last.new.buffer 7 c.put_number-last.result (number_text (number c.args.refusal)) = rw n at c.put_number-last.ensures.put in
    then_put (then_put {s = ascii "refused"} (record { past = refl; stored = word }) digits) (byte_put _ _ 10)
