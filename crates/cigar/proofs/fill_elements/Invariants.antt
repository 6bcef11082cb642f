-- `cigar::fill_elements` meets its contract. What is left to store makes the tables that are promised, before and after a turn. Assumes nothing.
use Prim.Native.Nat.{◌-◌, ◌≤◌}
use lib.ListN.{length, drop}
use lib.Seq.{sets}
use Rattle.refusals.specs.Numbers.{most_segments}
use Rattle.refusals.specs.Outcome.{Answered}
use Rattle.cigar.specs.Text.{read_all, elements_in}
use Rattle.cigar.specs.Read.{counts_of, letters_of, FullLength, Filled}
use Rattle.cigar.proofs.fill_elements.Given as goal

abbrev pub invariant-loop-step : goal.invariant-loop-step
invariant-loop-step l =
    (l.at ≤ length l.text) × FullLength l.counts l.letters × Answered (read_all (most_segments - l.n) (drop l.at l.text))
    × Filled l.counts l.letters
    (sets l.initial.counts 0 (counts_of (elements_in (read_all most_segments l.text))))
    (sets l.initial.letters 0 (letters_of (elements_in (read_all most_segments l.text))))
    l.n (elements_in (read_all (most_segments - l.n) (drop l.at l.text)))

abbrev pub decreases-loop-step : goal.decreases-loop-step
decreases-loop-step l = length l.text - l.at
