-- `spelling::element_size` meets its contract: the tests that led to each `return` say which case of `judged` holds. Assumes nothing.
use Rattle.refusals.specs.Outcome.{Ok}
use mathlib.Core.Path.{◌≡◌, refl, sym, ap, ◌∙◌}
use mathlib.Core.Bool.{true, false}
use Prim.Native.Nat.{ℕ}
use lib.IntN.{pos, nat_abs}
use lib.ListN.{length}
use lib.Signed.{lt_z}
use Rattle.whole.specs.laws.Whole.{read}
use Rattle.cigar.specs.Elements.{is_letter}
use Rattle.spelling.specs.Write.{element_text}
use Rattle.spelling.proofs.Writing.{alone_long}
use Rattle.spelling.proofs.element_size.Goals as goal

pub returns-then-count-lt0 : goal.returns-then-count-lt0
returns-then-count-lt0 c =
    let l : is_letter c.args.letter ≡ true = sym c.is_letter.ensures ∙ c.if-not-is_letter.false in
    let b : lt_z c.args.count (pos 0) ≡ true = rw (read c.ranges.count) at c.if-count-lt0.true in
    rw (l, b) (refl, tt)

pub returns : goal.returns
returns c =
    let l : is_letter c.args.letter ≡ true = sym c.is_letter.ensures ∙ c.if-not-is_letter.false in
    let kept = read c.ranges.count in
    let b : lt_z c.args.count (pos 0) ≡ false = rw kept at c.if-count-lt0.false in
    let size = c.element_len.ensures.0 ∙ ap (λ (n : ℕ). length (element_text n c.args.letter)) (c.unsigned.ensures ∙ ap nat_abs kept) in
    rw (l, b) (ap Ok (size ∙ sym (alone_long (nat_abs c.args.count) c.args.letter)), c.element_len.ensures.1)
