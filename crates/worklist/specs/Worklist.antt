-- A sorted worklist: each slot of a list holds a g. position and is answered as g. to n. answers that one base in strict mode. The list never falls, or it is refused as a whole. Assumes nothing.
use Rattle.std.specs.Prelude.{ℕ, zero, suc, ◌+◌, ◌-◌, Bool, true, List, map, ℤ, pos, get_or, length, if◌then◌else◌}
use Rattle.std.proofs.Math.Option.{Option, none, some}
use Rattle.std.specs.Int.Signed.{lt_z, le_z}
use Rattle.refusals.specs.declared.Refusal.TheVariants.{NoGenome, Falling}
use Rattle.refusals.specs.Numbers.{number}
use Rattle.refusals.specs.Outcome.{Outcome, Ok, Err}
use Rattle.cigar.specs.Elements.{genome}
use Rattle.segments.specs.Tables.{all_below, entries_of}
use Rattle.finding.specs.Finding.{index_of}
use Rattle.transcript.specs.Transcript.{Transcript, Source}
use Rattle.transcript.specs.Transcript.Source.{aligned, length_only}
use Rattle.holding.specs.Holding.{Lent, checked}
use Rattle.spots.specs.Mapping.{inside, place_of_g}
use Rattle.mapper.specs.Asking.{ask_g_to_n}
use Rattle.taking.specs.Taking.{g_asked}
use Rattle.layout.specs.Layout.{n_laid, laid}
use Rattle.layout.specs.declared.lay.Answer.{Answer}
use Rattle.worklist.specs.declared.Slot.{Slot}
use Rattle.worklist.specs.declared.Steps.{Steps}

-- ---- one slot

-- what the single-base mapping says in strict mode, as g. to n. lays it out
abbrev pub single : Lent → ℤ → Answer
single x g = laid n_laid (checked x (ask_g_to_n true (g_asked g g 0)))

-- a slot with its answer, its position untouched
abbrev pub answered_slot : Lent → Slot → Slot
answered_slot x s = record { position = s.position; answer = single x s.position }

-- ---- the list

abbrev pub positions_of : List Slot → List ℤ
positions_of slots = map (λ (s : Slot). s.position) slots

-- the position after position i is not below it
abbrev pub rises_at : List ℤ → ℕ → Bool
rises_at gs i = le_z (get_or gs i (pos 0)) (get_or gs (i + 1) (pos 0))

-- the list falls nowhere; equal positions are no fall
unfoldable pub never_falls : List ℤ → Bool
never_falls gs = all_below (rises_at gs) (length gs - 1)

-- ---- how many segments are stepped over

-- the genome's side of a transcript: its first start, and the entries of its segments
pub record Track : Type 0 where
  pub first : ℕ
  pub starts : List ℕ
  pub count : ℕ

abbrev pub track_of : Transcript → Track
track_of t = record { first = t.first; starts = entries_of genome t.elements; count = length t.elements }

-- the place of a g. number
abbrev pub place_on : Track → ℤ → ℤ
place_on r g = place_of_g r.first g

-- a place lies within strict bounds
abbrev pub within : Track → ℤ → Bool
within r p = inside true (get_or r.starts r.count 0) p

-- the number of the segment that holds a place: the finder's
abbrev pub segment_of : Track → ℤ → ℕ
segment_of r p = index_of r.starts r.count p

-- the larger of a place and the largest so far, where the place lies within strict bounds
abbrev pub wider : Track → Option ℤ → ℤ → Option ℤ
wider r none p = if within r p then some p else none
wider r (some m) p = if within r p then some (if lt_z m p then p else m) else some m

-- the largest place within strict bounds among the first i positions
unfoldable pub largest : Track → List ℤ → ℕ → Option ℤ
largest r gs zero = none
largest r gs (suc i) = wider r (largest r gs i) (place_on r (get_or gs i (pos 0)))

-- its segment's number, or 0 where there is none
abbrev pub segment_or0 : Track → Option ℤ → ℕ
segment_or0 r none = 0
segment_or0 r (some p) = segment_of r p

abbrev pub steps_after : Track → List ℤ → ℕ → ℕ
steps_after r gs i = segment_or0 r (largest r gs i)

-- of all positions
abbrev pub steps_of : Track → List ℤ → ℕ
steps_of r gs = steps_after r gs (length gs)

-- ---- the host's question

-- 18, then 33
unfoldable pub ask_steps : List ℤ → Source → Outcome ℕ
ask_steps gs (aligned t) = if never_falls gs then Ok (steps_of (track_of t) gs) else Err Falling
ask_steps gs (length_only n c) = Err NoGenome

-- after 23
abbrev pub listed : Lent → List Slot → Outcome ℕ
listed x slots = checked x (ask_steps (positions_of slots))

-- the steps, as the boundary lays them out
abbrev pub steps_laid : Outcome ℕ → Steps
steps_laid (Ok n) = record { number = 0; steps = n }
steps_laid (Err k) = record { number = number k; steps = 0 }

-- the slots afterwards: each is answered, or, where the list is refused, all are as they were
abbrev pub slots_filled : {A : Type 0} → Outcome A → Lent → List Slot → List Slot
slots_filled (Ok a) x slots = map (answered_slot x) slots
slots_filled (Err k) x slots = slots

abbrev pub slots_after : Lent → List Slot → List Slot
slots_after x slots = slots_filled (listed x slots) x slots
