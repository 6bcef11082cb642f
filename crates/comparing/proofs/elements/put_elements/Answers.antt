-- After i turns the first i elements stand in the tables, which keep their lengths.
use Prim.Native.Nat.{ℕ}
use native.Mathlib.Nat.{le_antisymm}
use native.Mathlib.Numerals.{add-one}
use mathlib.Core.Path.{refl, ap, ap₂, ◌∙◌}
use mathlib.Core.List.{List}
use lib.IntN.{ℤ}
use lib.ListN.{set, length-set}
use mir.Syntax.{w32}
use Rattle.whole.specs.laws.Whole.{told}
use Rattle.comparing.specs.Texts.{counts_put, letters_put}
use borrow.Author.Rules.{rules}
use Rattle.comparing.proofs.elements.put_elements.Goals as goal

pub loop-i-init : goal.loop-i-init
unfolding counts_put letters_put
loop-i-init c = (search rules, refl, refl, refl, refl)

pub loop-i-preserved : goal.loop-i-preserved
unfolding counts_put letters_put
loop-i-preserved c =
    let l = c.loop-i in (
      search rules,
      rw add-one (ap₂ (λ (t : List ℤ) (z : ℤ). set t l.i z) l.invariant.1 (told w32 c.count_at-count.result c.count_at-count.type_inv ∙ c.count_at-count.ensures)),
      rw add-one (ap₂ (λ (t : List ℕ) (b : ℕ). set t l.i b) l.invariant.2 c.letter_at.ensures),
      simp length-set l.invariant.3,
      simp length-set l.invariant.4,
    )

pub returns : goal.returns
returns c =
    let a = c.args in
    let l = c.loop-i in
    let all = le_antisymm l.invariant.0 c.loop-i-test.false in
    record { counts_after = l.invariant.1 ∙ ap (counts_put a.elements.now a.counts.now) all; letters_after = l.invariant.2 ∙ ap (letters_put a.elements.now a.letters.now) all }
