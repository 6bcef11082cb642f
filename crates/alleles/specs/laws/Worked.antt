-- Worked examples of the join, computed: 10M, a gap of 5 and 8M with the first start 10 and the CDS 3..15, on either strand. Assumes nothing.
use Rattle.std.specs.Prelude.{ℕ, true, Some, None, List, [], ◌∷◌, map, ◌≡◌, refl, ℤ, pos, negsuc}
use Prim.Native.Char.{Char, code}
use Rattle.refusals.specs.declared.Refusal.TheVariants.{NoGenome, MissingEnd, NoRoom, NotTogether, NoBase, Outside}
use Rattle.refusals.specs.Outcome.{Err, through}
use Rattle.whole.specs.Fits.{fits, fit_of}
use Rattle.numbering.specs.Numbers.{n_of_place, c_of_n, skip_zero}
use Rattle.cigar.specs.Elements.{letter_m, letter_n, is_letter, kind_of, genome, transcript, total}
use Rattle.segments.specs.Tables.{step_right, all_below, segments_hold, elements_from, entries_from}
use Rattle.finding.specs.Finding.{first_below, index_of}
use Rattle.segments.specs.Places.{nearer, spot_in, map_by_tables, map_place}
use Rattle.segments.specs.Exons.{goes_on, numbers_hold, numbers_from, exon_found}
use Rattle.holding.specs.Holding.{Lent, lent, cds_holds, records_hold, length_holds, holds, source_of, checked}
use Rattle.positions.specs.Positions.{Interval, GAsked, CPosition}
use Rattle.positions.specs.Answers.{certainly}
use Rattle.coding.specs.Coding.{beyond, c_position, c_of_interval, map_n_to_c}
use Rattle.spots.specs.Mapping.{inside, turned, n_of_spot, whole_n, map_g_to_n}
use Rattle.mapper.specs.Asking.{ask_g_to_n, ask_n_to_c, ask_g_to_c}
use Rattle.sequences.specs.Alleles.{prefix_len, suffix_len}
use Rattle.strands.specs.Turned as turn
use Rattle.alleles.specs.Joining.{Alleles, alleles, rooms, Trimmed, beside, ask_joined, joined, reference_after, alternative_after}

abbrev lent_of : ℤ → ℤ → List ℕ → Lent
lent_of kind strand exons =
    lent (record { kind = kind; strand = strand; first = pos 10; count = pos 3; bits = pos 3; start = pos 3; end = pos 15; length = pos 18; records = pos 2 })
    (0 ∷ 10 ∷ 15 ∷ 23 ∷ []) (0 ∷ 10 ∷ 10 ∷ 18 ∷ []) (letter_m ∷ letter_n ∷ letter_m ∷ []) exons

abbrev forward : Lent
forward = lent_of (pos 0) (pos 1) (1 ∷ 1 ∷ 2 ∷ [])

abbrev backward : Lent
backward = lent_of (pos 0) (negsuc 0) (2 ∷ 2 ∷ 1 ∷ [])

abbrev of_length : Lent
of_length = lent_of (pos 1) (negsuc 0) []

abbrev broken : Lent
broken = lent_of (pos 2) (pos 1) []

abbrev bytes : List Char → List ℕ
bytes s = map code s

abbrev cac : Alleles
cac = alleles (bytes ("C" ∷ "A" ∷ "C" ∷ [])) (bytes ("C" ∷ []))

-- U is no base
abbrev uracil : Alleles
uracil = alleles (bytes ("C" ∷ "A" ∷ "C" ∷ [])) (bytes ("U" ∷ []))

-- g.11_13, g.10, which is outside, and an interval without its end
abbrev three : Interval GAsked
three = record { from = Some (pos 11); to = Some (pos 13) }

abbrev before : Interval GAsked
before = record { from = Some (pos 10); to = Some (pos 10) }

abbrev no_end : Interval GAsked
no_end = record { from = Some (pos 11); to = None }

-- one byte of each goes at the front, and this is left of the reference and nothing of the alternative
abbrev leaving : List ℕ → Trimmed
leaving s = record { gone = record { prefix = 1; suffix = 0 }; left = alleles s [] }

-- *1_*3 in the second exon
abbrev starred : ℤ → CPosition
starred a = record { base = record { 0 = a; 1 = true }; offset = pos 0 }

-- what they are computed by: to unfold this is to unfold all of it
computing : Unit {0}
unfolding checked holds source_of records_hold length_holds cds_holds segments_hold goes_on numbers_hold numbers_from exon_found all_below step_right is_letter kind_of elements_from entries_from genome transcript total first_below index_of nearer spot_in map_by_tables map_place n_of_place c_of_n skip_zero fits fit_of beyond c_position c_of_interval map_n_to_c inside turned n_of_spot whole_n map_g_to_n ask_g_to_n ask_n_to_c ask_g_to_c ask_joined prefix_len suffix_len turn.are_bases turn.is_base turn.partner turn.partner_in turn.complement turn.turned
computing = tt

-- on strand -1 they are `GTG` and `G`, and leave `TG` and nothing beside the interval, which is not narrowed
pub worked_backward : joined backward true three cac (rooms 2 0) ≡ through (beside (leaving (bytes ("T" ∷ "G" ∷ [])))) (certainly (record { from = 2; to = 2 }) (record { from = starred (pos 1); to = starred (pos 3) }))
unfolding computing
worked_backward = refl

-- on strand 1 they are not turned, and leave `AC` and nothing
pub worked_forward : joined forward true three cac (rooms 2 0) ≡ through (beside (leaving (bytes ("A" ∷ "C" ∷ [])))) (checked forward (ask_g_to_c true three))
unfolding computing
worked_forward = refl

-- what the buffers then hold: the rest of them stays
pub worked_buffers :
    (reference_after (1 ∷ 2 ∷ 3 ∷ []) (joined backward true three cac (rooms 3 1)) ≡ code "T" ∷ code "G" ∷ 3 ∷ [])
    × (alternative_after (4 ∷ []) (joined backward true three cac (rooms 3 1)) ≡ 4 ∷ [])
unfolding computing
worked_buffers = (refl, refl)

-- each comes before what follows it: no kind; a letter; no room for what is left, where g.10 is outside; no genome, where an end is missing; that; g.10. A length-only transcript is asked for letters and room too
pub worked_order :
    joined broken true no_end uracil (rooms 0 0)
    ∷ joined backward true before uracil (rooms 0 0)
    ∷ joined forward true no_end uracil (rooms 0 0)
    ∷ joined of_length true no_end uracil (rooms 0 0)
    ∷ joined backward true before cac (rooms 1 0)
    ∷ joined of_length true no_end cac (rooms 1 0)
    ∷ joined of_length true no_end cac (rooms 2 0)
    ∷ joined backward true no_end cac (rooms 2 0)
    ∷ joined backward true before cac (rooms 2 0)
    ∷ []
    ≡ map Err (NotTogether ∷ NoBase ∷ NoBase ∷ NoBase ∷ NoRoom ∷ NoRoom ∷ NoGenome ∷ MissingEnd ∷ Outside ∷ [])
unfolding computing
worked_order = refl
