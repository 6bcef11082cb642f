-- Where the walk stands at a slot, and what it is to write there. Assumes nothing.
use Rattle.std.specs.Prelude.{ℕ, ◌≤◌, ◌<◌, Bool, true, List, ◌≡◌, ℤ, if◌then◌else◌}
use Rattle.refusals.specs.declared.Refusal.TheVariants.{NoGenome, NotTogether, Falling}
use Rattle.refusals.specs.Outcome.{Outcome, Ok, Err}
use Rattle.transcript.specs.Transcript.{Transcript}
use Rattle.holding.specs.Holding.{of_records, Lent, holds}
use Rattle.knowing.specs.Knowing.{alignment_of}
use Rattle.spots.specs.Mapping.{map_g_to_n}
use Rattle.spots.specs.declared.Alignment.{Alignment}
use Rattle.layout.specs.Layout.{n_laid, laid}
use Rattle.worklist.specs.Worklist.{Track, place_on, within, segment_of}
use Rattle.worklist.specs.declared.Slot.{Slot}

-- the genome's side as the code holds it
abbrev pub track_by : Alignment → List ℕ → Track
track_by a genome = record { first = a.first; starts = genome; count = a.count }

-- where the walk stands after a position: on its segment, or where it stood before a position that lies outside
abbrev pub next_index : Track → ℕ → ℤ → ℕ
next_index r index g = if within r (place_on r g) then segment_of r (place_on r g) else index

-- the walk stands on a segment, and not past that of a position that it is to answer
pub record Ready (r : Track) (index : ℕ) (g : ℤ) : Type 0 where
  pub before : within r (place_on r g) ≡ true → index ≤ segment_of r (place_on r g)
  pub on : index < r.count

-- a slot with the answer of the transcript that it is asked of
abbrev pub answered_by : Transcript → Slot → Slot
answered_by t s = record { position = s.position; answer = laid n_laid (map_g_to_n true t (record { from = s.position; to = s.position })) }

-- how what is lent lies, along which a list is walked where this says that it never falls; or why it is not walked
abbrev pub along : Lent → Bool → Outcome Alignment
along x rises = if holds x then (if of_records x.head then (if rises then Ok (alignment_of x.head) else Err Falling) else Err NoGenome) else Err NotTogether
