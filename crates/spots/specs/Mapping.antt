-- The mappings of g. intervals to n. and of n. intervals to g., of a transcript built from records. `strict` is true in strict mode. Assumes nothing.
use Rattle.std.specs.Prelude.{ℕ, Bool, true, false, cond, not, ◌&&◌, ◌||◌, ℤ, pos, neg_ℤ, ◌+ℤ◌, ◌-ℤ◌, if◌then◌else◌}
use Rattle.std.specs.Int.Signed.{le_z, lt_z}
use Rattle.refusals.specs.declared.Refusal.TheVariants.{Outside}
use Rattle.refusals.specs.Outcome.{Ok, Err}
use Rattle.numbering.specs.Numbers.{n_of_place, place_of_n}
use Rattle.cigar.specs.Elements.{genome, transcript}
use Rattle.segments.specs.Places.{Spot, map_place}
use Rattle.segments.specs.Places.End.{start, stop}
use Rattle.segments.specs.Exons.{exon_found, exon_chosen}
use Rattle.transcript.specs.Transcript.{Transcript, exon_number, genome_length, transcript_length}
use Rattle.positions.specs.Positions.{Interval, NAsked, GPosition, NPosition}
use Rattle.positions.specs.Answers.{Answer, mark_of, g_fits, n_fits, fitting}

-- in strict mode a place lies at or above 0 and below the last entry
unfoldable pub inside : Bool → ℕ → ℤ → Bool
inside strict len p = not strict || (le_z (pos 0) p && lt_z p (pos len))

-- the turn of strand -1: a place becomes length - 1 - place, an offset changes its sign, start and end change places
unfoldable pub turned : Bool → ℕ → ℤ → ℤ
turned true len p = p
turned false len p = pos len -ℤ pos 1 -ℤ p

abbrev pub signed : Bool → ℤ → ℤ
signed true o = o
signed false o = neg_ℤ o

abbrev pub earlier : {A : Type 0} → Bool → A → A → A
earlier forward a b = cond forward a b

abbrev pub later : {A : Type 0} → Bool → A → A → A
later forward a b = cond forward b a

-- ---- exons

-- the exon numbers of an interval's two ends, which go with them: from the genome, where on strand -1 they change places, and from the transcript, in genomic order
abbrev pub found_exons : Bool → (ℕ → ℕ) → Spot → Spot → Interval ℕ
found_exons forward number a b = record { from = exon_found number (earlier forward a b); to = exon_found number (later forward a b) }

abbrev pub chosen_exons : Bool → (ℕ → ℕ) → Spot → Spot → Interval ℕ
chosen_exons forward number a b = record { from = exon_chosen forward number a; to = exon_chosen forward number b }

-- ---- g. to n.

-- the place of a g. number, where the first start is this
abbrev pub place_of_g : ℕ → ℤ → ℤ
place_of_g first g = g -ℤ pos 1 -ℤ pos first

unfoldable pub n_of_spot : Transcript → Spot → NPosition
n_of_spot t a = record { base = n_of_place (turned t.forward (transcript_length t) a.place); offset = signed t.forward a.offset }

abbrev pub n_answer : Transcript → Spot → Spot → Answer NPosition
n_answer t a b = Ok (record { mark = mark_of (a.sure && b.sure) (found_exons t.forward (exon_number t) a b); interval = record { from = n_of_spot t (earlier t.forward a b); to = n_of_spot t (later t.forward a b) } })

-- before 17 is asked
unfoldable pub whole_n : Bool → Transcript → Interval ℤ → Answer NPosition
whole_n strict t i =
    let p = place_of_g t.first i.from in
    let q = place_of_g t.first i.to in
    if inside strict (genome_length t) p && inside strict (genome_length t) q
    then n_answer t (map_place genome transcript t.elements p start t.forward) (map_place genome transcript t.elements q stop t.forward)
    else Err Outside

unfoldable pub map_g_to_n : Bool → Transcript → Interval ℤ → Answer NPosition
map_g_to_n strict t i = fitting n_fits (whole_n strict t i)

-- ---- n. to g.

-- the number's own offset counts; the rule's is dropped
unfoldable pub g_of_spot : Transcript → Spot → ℤ → GPosition
g_of_spot t a o = record { base = a.place +ℤ pos t.first +ℤ pos 1 +ℤ signed t.forward o }

abbrev pub g_answer : Transcript → Spot → Spot → ℤ → ℤ → Answer GPosition
g_answer t a b o u = Ok (record { mark = mark_of (a.sure && b.sure) (chosen_exons t.forward (exon_number t) a b); interval = record { from = g_of_spot t a o; to = g_of_spot t b u } })

-- two positions in genomic order
unfoldable pub g_of_ends : Bool → Transcript → NAsked → NAsked → Answer GPosition
g_of_ends strict t a b =
    let p = turned t.forward (transcript_length t) (place_of_n a.base) in
    let q = turned t.forward (transcript_length t) (place_of_n b.base) in
    if inside strict (transcript_length t) p && inside strict (transcript_length t) q
    then g_answer t (map_place transcript genome t.elements p start true) (map_place transcript genome t.elements q stop true) a.offset b.offset
    else Err Outside

unfoldable pub map_n_to_g : Bool → Transcript → Interval NAsked → Answer GPosition
map_n_to_g strict t i = fitting g_fits (g_of_ends strict t (earlier t.forward i.from i.to) (later t.forward i.from i.to))

-- ---- in bounds

-- both places lie inside as in strict mode, whichever comes first
abbrev pub lies_in_bounds : ℕ → ℕ → Interval ℤ → Bool
lies_in_bounds first len i = inside true len (place_of_g first i.from) && inside true len (place_of_g first i.to)
