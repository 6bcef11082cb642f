-- The word and the number are compared by their bits, which tell them apart. Assumes nothing.
use Rattle.std.proofs.Common.{◌≡◌, sym, ap, ◌∙◌, eqb, eqb-true, ℤ, of_z, w64}
use borrow.Author.Tests.{eqb-false}
use mir.Syntax.{w32}
use mir.Val.{SFits}
use Rattle.whole.specs.Whole.{eq_z}
use Rattle.whole.specs.laws.Whole.{by_test, told, same_read, other_read}
use Rattle.rows.specs.Rows.{is_word}
use Rattle.rows.proofs.is_word.Goals as goal

by_bits : (a b : ℤ) → SFits w64 a → SFits w64 b → eqb (of_z w64 a) (of_z w64 b) ≡ eq_z a b
by_bits a b fits_a fits_b =
    by_test (eqb (of_z w64 a) (of_z w64 b))
    (λ t. t ∙ sym (same_read a b fits_a fits_b (eqb-true _ _ t)))
    (λ t. t ∙ sym (other_read a b (eqb-false _ _ t)))

pub returns : goal.returns
unfolding is_word
returns c =
    let z = c.args.z in
    by_bits c.from.result z (record { sfits = c.from.type_inv }) c.ranges.z
    ∙ ap (λ (a : ℤ). eq_z a z) (c.from.ensures ∙ told w32 c.signed_word.result c.signed_word.type_inv ∙ c.signed_word.ensures)
