-- `spots::g_answer` meets its contract: `g_of_place` gives each end with its number's own offset, and `marked` and `both` join them under the mark of both spots, as `g_joined` does. Assumes nothing.
use Rattle.whole.specs.laws.Whole.{read}
use Rattle.positions.specs.Paper.{paper_g_position}
use Rattle.positions.specs.laws.Reading.{marked_both}
use Rattle.spots.specs.Aligned.{g_joined}
use Rattle.spots.proofs.g_answer.Goals as goal

pub returns : goal.returns
unfolding g_joined
returns c =
    let from = rw (read c.ranges.o) at c.g_of_place-from.ensures in
    let to = rw (read c.ranges.u) at c.g_of_place-to.ensures in
    simp (c.marked.ensures, c.both.ensures, marked_both paper_g_position, from, to)
