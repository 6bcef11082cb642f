-- How many entries of the table of genome starts the walk looks at to find the segments of all positions. Assumes nothing.
use Rattle.std.specs.Prelude.{ℕ, zero, suc, ◌+◌, ◌-◌, List, ℤ, pos, get_or, if◌then◌else◌}
use Rattle.finding.specs.Finding.{ends_above}
use Rattle.worklist.specs.Worklist.{Track, place_on, within, steps_after}

-- from the segment i on, with m segments behind it: each turn looks at one end, and goes on unless it is above the place; the last segment's end is not looked at
unfoldable pub looks_from : List ℕ → ℤ → ℕ → ℕ → ℕ
looks_from starts p i zero = 0
looks_from starts p i (suc m) = 1 + (if ends_above starts p i then 0 else looks_from starts p (i + 1) m)

-- at the slot i: from the segment where the walk stands, where the position lies within strict bounds
abbrev pub looks_at : Track → List ℤ → ℕ → ℕ
looks_at r gs i =
    if within r (place_on r (get_or gs i (pos 0)))
    then looks_from r.starts (place_on r (get_or gs i (pos 0))) (steps_after r gs i) (r.count - 1 - steps_after r gs i)
    else 0

-- at the first i slots
unfoldable pub looks_after : Track → List ℤ → ℕ → ℕ
looks_after r gs zero = 0
looks_after r gs (suc i) = looks_after r gs i + looks_at r gs i
