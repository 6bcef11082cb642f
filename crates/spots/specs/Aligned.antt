-- How a transcript lies on the genome as the code holds it, and what the steps of g. to n. and back give at one end. Assumes nothing.
use Rattle.std.specs.Prelude.{ℕ, ◌≤◌, ◌<◌, ◌≡◌, Bool, true, ◌&&◌, List, ℤ, pos, ◌+ℤ◌, get_or}
use Rattle.refusals.specs.Numbers.{most_segments}
use Rattle.refusals.specs.Outcome.{Outcome}
use Rattle.numbering.specs.Numbers.{n_of_place}
use Rattle.segments.specs.Places.{Spot}
use Rattle.finding.specs.Finding.{Rising, index_of}
use Rattle.segments.specs.Tables.{Tables, segments_hold, read}
use Rattle.segments.specs.Exons.{last_number, number_at, read_numbers}
use Rattle.transcript.specs.Transcript.{Transcript}
use Rattle.transcript.specs.Transcript.Cds.{no_cds}
use Rattle.positions.specs.Positions.{Interval, GPosition, NPosition}
use Rattle.positions.specs.Answers.{Answer, mark_of, ends, g_fits, n_fits, if_fits}
use Rattle.spots.specs.Mapping.{inside, turned, signed, earlier, later, place_of_g}
use Rattle.spots.specs.declared.Alignment.{Alignment}

-- the transcript that lies so. Between g. and n. its CDS is not looked at
abbrev pub aligned_by : Alignment → Tables → List ℕ → Transcript
aligned_by a x exons = record { forward = a.forward; first = a.first; elements = read x a.count; numbers = read_numbers exons a.count; records = a.records; coding = no_cds }

-- the exon number of segment i of it, or what stands behind the last
abbrev pub number_by : Alignment → List ℕ → ℕ → ℕ
number_by a exons = number_at exons a.count (last_number a.forward a.records)

-- its tables hold together
pub record Aligns (a : Alignment) (x : Tables) : Type 0 where
  pub count_from : 1 ≤ a.count
  pub count_to : a.count ≤ most_segments
  pub segments : segments_hold x a.count ≡ true

-- this is the number of one of n segments, and of the one that holds the place p if the starts rise, which is not known before a table was looked at
pub record Numbers (starts : List ℕ) (n : ℕ) (p : ℤ) (number : ℕ) : Type 0 where
  pub on : number < n
  pub here : Rising starts n → number ≡ index_of starts n p

-- this is the number of a segment, and of the one that holds the place of g, where that place lies within strict bounds
pub record InSegment (a : Alignment) (genome : List ℕ) (number : ℕ) (g : ℤ) : Type 0 where
  pub on : number < a.count
  pub here : inside true (get_or genome a.count 0) (place_of_g a.first g) ≡ true → number ≡ index_of genome a.count (place_of_g a.first g)

-- a spot of a transcript of that strand and length as an n. position, or 17
abbrev pub n_end_at : Bool → ℕ → Spot → Outcome NPosition
n_end_at forward len a = if_fits n_fits (record { base = n_of_place (turned forward len a.place); offset = signed forward a.offset })

-- an interval's two spots as an n. interval with its mark and those exons, or 17: on strand -1 start and end change places
unfoldable pub n_joined : Bool → ℕ → Interval ℕ → Spot → Spot → Answer NPosition
n_joined forward len exons a b = ends (mark_of (a.sure && b.sure) exons) (n_end_at forward len (earlier forward a b)) (n_end_at forward len (later forward a b))

-- a place of the genome with an n. number's own offset as a g. position, or 17
abbrev pub g_end_at : Bool → ℕ → ℤ → ℤ → Outcome GPosition
g_end_at forward first p o = if_fits g_fits (record { base = p +ℤ pos first +ℤ pos 1 +ℤ signed forward o })

-- an interval's two spots, with the numbers' own offsets, as a g. interval with its mark and those exons, or 17
unfoldable pub g_joined : Bool → ℕ → Interval ℕ → Spot → Spot → ℤ → ℤ → Answer GPosition
g_joined forward first exons a b o u = ends (mark_of (a.sure && b.sure) exons) (g_end_at forward first a.place o) (g_end_at forward first b.place u)
