-- The counts are compared by their bits, which tell them apart.
use mathlib.Core.Path.{ap, ◌∙◌}
use lib.IntN.{ℤ}
use Rattle.whole.specs.Whole.{eq_z}
use Rattle.whole.specs.laws.Machine.{bits_32}
use Rattle.comparing.specs.Bam.{is_count}
use Rattle.comparing.proofs.slices.is_count.Goals as goal

pub returns : goal.returns
unfolding is_count
returns c =
    bits_32 {a = c.count_at.result} {b = c.args.count} (record { sfits = c.count_at.type_inv }) c.ranges.count
    ∙ ap (λ (z : ℤ). eq_z z c.args.count) c.count_at.ensures
