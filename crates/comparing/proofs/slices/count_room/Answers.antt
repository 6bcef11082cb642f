-- The room has its length by the law of repeats; computing the list would cost by its length.
use mathlib.Core.Path.{refl, sym}
use lib.IntN.{ℤ, pos}
use lib.ListN.{length-replicate}
use Rattle.comparing.specs.Sizes.{most_words}
use Rattle.comparing.proofs.slices.count_room.Goals as goal

pub returns : goal.returns
returns c = record { value = refl; size = sym (length-replicate {A = ℤ} most_words (pos 0)) }
