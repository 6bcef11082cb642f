-- Which table is damaged is one number of the row, and the tests on the way to it are those of the definition.
use mathlib.Core.Path.{refl, sym, ap, ◌∙◌}
use Prim.Native.Nat.{ℕ}
use mathlib.Core.List.{List}
use mir.Syntax.{w32}
use Rattle.whole.specs.laws.Whole.{told}
use borrow.Author.Tests.{ne_eqb}
use Rattle.segments.specs.Tables.{tables}
use Rattle.comparing.specs.Changes.{head_damaged, starts_damaged, letters_damaged, exons_damaged}
use Rattle.comparing.proofs.lent.damage.Goals as goal

pub returns-then-table-eq0 : goal.returns-then-table-eq0
unfolding head_damaged starts_damaged letters_damaged exons_damaged
returns-then-table-eq0 c =
    let a = c.args in
    let e = sym c.size-table.ensures ∙ c.if-table-eq0.true in
    rw e record { head_after = simp (told w32 c.number.result c.number.type_inv ∙ c.number.ensures, c.size-i.ensures) at c.put_signed.ensures; letters_after = refl; exons_after = refl }

pub returns-then-table-eq1 : goal.returns-then-table-eq1
unfolding head_damaged starts_damaged letters_damaged exons_damaged
returns-then-table-eq1 c =
    let a = c.args in
    let e = sym c.size-table.ensures ∙ c.if-table-eq1.true in
    rw e record { head_after = refl; letters_after = ap (λ (g : List ℕ). tables g a.transcript.now a.letters.now) (simp (c.size-i.ensures, c.bits-value.ensures) at c.put_start.ensures); exons_after = refl }

pub returns-then-table-eq2 : goal.returns-then-table-eq2
unfolding head_damaged starts_damaged letters_damaged exons_damaged
returns-then-table-eq2 c =
    let a = c.args in
    let e = sym c.size-table.ensures ∙ c.if-table-eq2.true in
    rw e record { head_after = refl; letters_after = ap (λ (t : List ℕ). tables a.genome.now t a.letters.now) (simp (c.size-i.ensures, c.bits-value.ensures) at c.put_start-then-table-eq2.ensures); exons_after = refl }

pub returns-then-table-eq3 : goal.returns-then-table-eq3
unfolding head_damaged starts_damaged letters_damaged exons_damaged
returns-then-table-eq3 c =
    let a = c.args in
    let e = sym c.size-table.ensures ∙ c.if-table-eq3.true in
    rw e record { head_after = refl; letters_after = ap (λ (l : List ℕ). tables a.genome.now a.transcript.now l) (simp (c.size-i.ensures, c.bits-value.ensures) at c.put_letter.ensures); exons_after = refl }

pub returns-then-table-eq4 : goal.returns-then-table-eq4
unfolding head_damaged starts_damaged letters_damaged exons_damaged
returns-then-table-eq4 c =
    let e = sym c.size-table.ensures ∙ c.if-table-eq4.true in
    rw e record { head_after = refl; letters_after = refl; exons_after = simp (c.size-i.ensures, c.bits-value.ensures) at c.put_exon.ensures }

pub returns-else-table-eq4 : goal.returns-else-table-eq4
unfolding head_damaged starts_damaged letters_damaged exons_damaged
returns-else-table-eq4 c =
    rw (← c.size-table.ensures, ne_eqb _ _ c.if-table-eq0.false, ne_eqb _ _ c.if-table-eq1.false, ne_eqb _ _ c.if-table-eq2.false, ne_eqb _ _ c.if-table-eq3.false, ne_eqb _ _ c.if-table-eq4.false) record { head_after = refl; letters_after = refl; exons_after = refl }
