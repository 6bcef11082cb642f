-- After i turns the first i words stand in the slice, which keeps its length.
use Prim.Native.Nat.{ℕ}
use native.Mathlib.Nat.{le_antisymm}
use native.Mathlib.Numerals.{add-one}
use mathlib.Core.Path.{refl, ap, ap₂, ◌∙◌}
use mathlib.Core.List.{List}
use lib.ListN.{set, length-set}
use Rattle.comparing.specs.Bam.{words_put}
use borrow.Author.Rules.{rules}
use Rattle.comparing.proofs.slices.put_words.Goals as goal

pub loop-i-init : goal.loop-i-init
unfolding words_put
loop-i-init c = (search rules, refl, refl)

pub loop-i-preserved : goal.loop-i-preserved
unfolding words_put
loop-i-preserved c =
    let l = c.loop-i in
    (search rules, rw add-one (ap₂ (λ (t : List ℕ) (w : ℕ). set t l.i w) l.invariant.1 c.word_at.ensures), simp length-set l.invariant.2)

pub returns : goal.returns
returns c =
    let a = c.args in
    let l = c.loop-i in
    l.invariant.1 ∙ ap (words_put a.layout.now a.words.now) (le_antisymm l.invariant.0 c.loop-i-test.false)
