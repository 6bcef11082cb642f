-- What the passes show decides where the last entries are low (`decided`). Assumes nothing.
use mathlib.Core.Bool.{Bool, true, false, ◌&&◌, ◌||◌}
use mathlib.Core.Path.{◌≡◌, ap, ap₂, ◌∙◌}
use Rattle.segments.specs.Tables.{tables, all_below, known_at}
use Rattle.stepping.specs.Steps.{same_at, within_at}
use Rattle.together.proofs.Deciding.{low_ends, decided}
use Rattle.together.proofs.segments_hold.Goals as goal

-- what is fine counts only where letters are known and steps the same
fine : (known same fine₁ fine₂ : Bool) {seen : Bool} → seen ≡ (known && same) → (seen ≡ true → fine₁ ≡ fine₂) → (seen && fine₁) ≡ (known && (same && fine₂))
fine true true f₁ f₂ e h = rw e (h e)
fine true false f₁ f₂ e h = rw e
fine false same f₁ f₂ e h = rw e

pub returns : goal.returns
returns c =
    let a = tables c.args.genome.now c.args.transcript.now c.args.letters.now in
    let shows = c.shown-seen.ensures in
    let n = c.args.count in
    let ends = low_ends a n in
    λ low.
    ap₂ ◌&&◌ c.begins.ensures
    (c.is_fine-fine.ensures
    ∙ fine (all_below (known_at a.letters) n) (all_below (same_at a) n) _ (all_below (within_at 21 a) n || (all_below (within_at 31 a) n && ends)) shows.same_value (λ e. ap₂ ◌||◌ (shows.bits_value e 21) (ap (λ (b : Bool). b && ends) (shows.bits_value e 31))))
    ∙ decided _ _ c.requires low
