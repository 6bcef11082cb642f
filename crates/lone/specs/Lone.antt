-- A base by itself, start and end of its interval alike: where it lies inside, both its ends are answered by its spot. And what is known of one that is sought before its tables were looked at. Assumes nothing.
use Rattle.std.specs.Prelude.{ℕ, true, List, ◌≡◌, ℤ, Option, Some, None, get_or}
use Rattle.whole.specs.Whole.{Within}
use Rattle.segments.specs.Places.{Spot, unsurely, stop_of}
use Rattle.segments.specs.Exons.{exon_found, exon_chosen}
use Rattle.positions.specs.Positions.{GPosition, NPosition}
use Rattle.positions.specs.Answers.{Answer, certain, ends}
use Rattle.spots.specs.Mapping.{inside}
use Rattle.spots.specs.Aligned.{number_by, Numbers, n_end_at, n_joined, g_end_at, g_joined}
use Rattle.spots.specs.declared.Alignment.{Alignment}
use Rattle.lone.specs.declared.Sought.{Sought}

-- ---- what a sure one is answered with: its one spot's position at both ends, with one exon, certain, or 17

-- from the genome
abbrev pub n_once : Alignment → List ℕ → List ℕ → Spot → Answer NPosition
n_once a transcript exons s =
    let exon = exon_found (number_by a exons) s in
    let end = n_end_at a.forward (get_or transcript a.count 0) s in
    ends (certain (record { from = exon; to = exon })) end end

-- from the transcript, with the number's own offset
abbrev pub g_once : Alignment → List ℕ → Spot → ℤ → Answer GPosition
g_once a exons s o =
    let exon = exon_chosen a.forward (number_by a exons) s in
    let end = g_end_at a.forward a.first s.place o in
    ends (certain (record { from = exon; to = exon })) end end

-- ---- and one beside an I or a D, by its place p in the segment with this number: the two positions around it, with one exon, uncertain, or 17

abbrev pub n_beside : Alignment → List ℕ → List ℕ → ℤ → ℕ → Answer NPosition
n_beside a transcript exons p number =
    let s = unsurely number p in
    let exon = exon_found (number_by a exons) s in
    n_joined a.forward (get_or transcript a.count 0) (record { from = exon; to = exon }) s (stop_of s)

abbrev pub g_beside : Alignment → List ℕ → ℤ → ℕ → ℤ → Answer GPosition
g_beside a exons p number o =
    let s = unsurely number p in
    let exon = exon_chosen a.forward (number_by a exons) s in
    g_joined a.forward a.first (record { from = exon; to = exon }) s (stop_of s) o o

-- ---- a base that is sought before its tables were looked at, as the code has it

-- the place p lies inside, and this is the number of its segment if the starts rise
pub record Seen (starts : List ℕ) (n : ℕ) (p : ℤ) (number : ℕ) : Type 0 where
  pub small : Within 36 p
  pub within : inside true (get_or starts n 0) p ≡ true
  pub numbers : Numbers starts n p number

-- it is this place, where it was seen
abbrev pub SoughtAt : List ℕ → ℕ → ℤ → Option Sought → Type 0
SoughtAt starts n p (Some s) = (s.place.0 ≡ p) × Seen starts n s.place.0 s.number
SoughtAt starts n p None = Unit
