-- `playback::differing::is_same` meets its contract: `==` compares every field in turn, and what it answers at signed numbers is `eq_z`.
-- Assumes nothing.
use Rattle.std.specs.Prelude.{◌≡◌, Bool, ◌&&◌, eqb, ℤ}
use Rattle.std.specs.Ordering.{int_eq}
use Rattle.std.proofs.Common.{sym, ap₂, ◌∙◌}
use Rattle.std.proofs.Math.Bool.{and_assoc}
use Rattle.std.proofs.lemmas.Bool.Decides.{same_from_decides, Decides-int_eq}
use Rattle.layout.specs.declared.lay.Position.{Position}
use Rattle.whole.specs.Whole.{eq_z}
use Rattle.whole.specs.laws.Whole.{eq_means, eq_says, eq_yes_by}
use Rattle.playback.specs.Replay.{same_answer, same_position}
use Rattle.playback.proofs.differing.is_same.Goals as goal

same_number : (a b : ℤ) → int_eq a b ≡ eq_z a b
same_number a b = same_from_decides (int_eq a b) (eq_z a b) (Decides-int_eq a b) (eq_means a b, λ e. eq_yes_by a b (eq_says a b e))

four : (p q r s : Bool) → (p && (q && (r && s))) ≡ (p && q && r && s)
four p q r s = sym (and_assoc (p && q) r s ∙ and_assoc p q (r && s))

position : (a b : Position) → (int_eq a.base b.base && (int_eq a.offset b.offset && (eqb a.star b.star && eqb a.exon b.exon))) ≡ same_position a b
unfolding same_position
position a b =
    ap₂ (λ (base offset : Bool). base && (offset && (eqb a.star b.star && eqb a.exon b.exon))) (same_number a.base b.base) (same_number a.offset b.offset)
    ∙ four (eq_z a.base b.base) (eq_z a.offset b.offset) (eqb a.star b.star) (eqb a.exon b.exon)

pub returns : goal.returns
unfolding same_answer
returns c =
    let a = c.args.a in
    let b = c.args.b in
    c.eq.ensures
    ∙ ap₂ (λ (start end : Bool). eqb a.number b.number && (eqb a.mark b.mark && (start && end))) (position a.start b.start) (position a.end b.end)
    ∙ four (eqb a.number b.number) (eqb a.mark b.mark) (same_position a.start b.start) (same_position a.end b.end)
