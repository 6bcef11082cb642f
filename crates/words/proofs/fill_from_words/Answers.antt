-- `words::fill_from_words` meets its contract. What is left to store makes the tables that are promised, before and after a turn. Assumes nothing.
use Rattle.std.proofs.Common.{◌≡◌, ℤ, pos, get_or, w32, to_z, of_z, refl, ap, subst, ◌∙◌, arith}
use mir.ValLaws.{to_z_pos}
use Rattle.cigar.specs.Read.{Filled}
use Rattle.cigar.specs.laws.Filling.{fill_one, fill_none}
use Rattle.words.specs.Words.{length_in}
use Rattle.words.proofs.Words.{elements_more, elements_none}
use Rattle.words.proofs.fill_from_words.Goals as goal

pub loop-i-init : goal.loop-i-init
loop-i-init c = record { counts_is = refl; letters_is = refl }

pub loop-i-preserved : goal.loop-i-preserved
loop-i-preserved c =
    let l = c.loop-i in
    let words = c.args.words.now in
    let word = get_or words l.i 0 in
    let kept : to_z w32 (of_z w32 c.length_in.result) ≡ pos (length_in word) =
    ap (λ (z : ℤ). to_z w32 (of_z w32 z)) c.length_in.ensures.0 ∙ to_z_pos w32 (length_in word) (omega (arith, c.length_in.ensures.1)) in
    rw (kept, c.letter_in.ensures) (fill_one (subst (Filled _ _ _ _ l.i) (elements_more words l.i c.loop-i-test.true) l.invariant))

pub returns : goal.returns
returns c =
    let l = c.loop-i in
    fill_none (subst (Filled _ _ _ _ l.i) (elements_none c.args.words.now l.i c.loop-i-test.false) l.invariant)
