-- The counts are compared by their bits, which tell them apart.
use mathlib.Core.Path.{◌≡◌, refl, sym, ap, ◌∙◌}
use mathlib.Core.Bool.{true, false}
use lib.IntN.{ℤ}
use borrow.Author.Tests.{ne_eqb}
use Rattle.whole.specs.Whole.{eq_z}
use Rattle.whole.specs.laws.Machine.{same_32, other_32}
use Rattle.comparing.specs.Texts.{recorded_count, is_element}
use Rattle.comparing.proofs.elements.is_element.Goals as goal

pub returns-then-count_at-count : goal.returns-then-count_at-count
unfolding is_element
returns-then-count_at-count c =
    let e : eq_z (recorded_count c.args.elements.now c.args.i) c.args.count ≡ true =
    ap (λ (z : ℤ). eq_z z c.args.count) (sym c.count_at.ensures)
    ∙ same_32 {a = c.count_at.result} {b = c.args.count} (record { sfits = c.count_at.type_inv }) c.ranges.count c.if-count_at-count.true in
    rw (e, c.letter_at.ensures)

pub returns-else-count_at-count : goal.returns-else-count_at-count
unfolding is_element
returns-else-count_at-count c =
    let e : eq_z (recorded_count c.args.elements.now c.args.i) c.args.count ≡ false =
    ap (λ (z : ℤ). eq_z z c.args.count) (sym c.count_at.ensures)
    ∙ other_32 c.count_at.result c.args.count c.if-count_at-count.false in
    rw (e, ne_eqb _ _ c.if-count_at-count.false) refl
