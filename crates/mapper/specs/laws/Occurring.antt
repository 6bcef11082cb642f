-- Each refusal of each question's row occurs: a question that is refused with it, computed. With the rows of `Refusing` the sets are exact. Assumes nothing.
use Rattle.std.specs.Prelude.{true, false, Some, None, [], ◌∷◌, map, ◌≡◌, refl, ℤ, pos, negsuc}
use Rattle.refusals.specs.Outcome.{Err}
use Rattle.whole.specs.Fits.{fits, fit_of}
use Rattle.numbering.specs.Numbers.{n_of_place, place_of_n, plain_c, c_of_n, n_of_c, skip_zero}
use Rattle.cigar.specs.Elements.{letter_i, letter_m, letter_n, is_letter, kind_of, genome, transcript, total}
use Rattle.segments.specs.Tables.{step_right, all_below, segments_hold, elements_from, entries_from}
use Rattle.finding.specs.Finding.{first_below, index_of}
use Rattle.segments.specs.Places.{nearer, spot_in, map_by_tables, map_place}
use Rattle.segments.specs.Exons.{goes_on, numbers_hold, numbers_from, exon_found, exon_chosen}
use Rattle.holding.specs.Holding.{Lent, lent, cds_holds, records_hold, length_holds, holds, source_of, checked}
use Rattle.positions.specs.Positions.{Interval, GAsked, NAsked, CAsked}
use Rattle.coding.specs.Coding.{beyond, c_position, c_of_interval, map_n_to_c, n_position, map_c_to_n}
use Rattle.spots.specs.Mapping.{inside, turned, n_of_spot, whole_n, map_g_to_n, g_of_spot, g_of_ends, map_n_to_g}
use Rattle.mapper.specs.Asking.{ask_g_to_n, ask_n_to_g, ask_n_to_c, ask_c_to_n, ask_g_to_c, ask_c_to_g, ask_coding, ask_in_bounds}
use Rattle.mapper.specs.laws.Refusing.{g_to_n_refusals, n_to_g_refusals, n_to_c_refusals, c_to_n_refusals, g_to_c_refusals, c_to_g_refusals, coding_refusals, in_bounds_refusals}

-- ---- what is lent

-- transcript A: 10M, a gap of 5 and 8M with the first start 10 and the CDS 3..15, of this kind and with these CDS bits
abbrev lent_a : ℤ → ℤ → Lent
lent_a kind bits =
    lent (record { kind = kind; strand = pos 1; first = pos 10; count = pos 3; bits = bits; start = pos 3; end = pos 15; length = pos 18; records = pos 2 })
    (0 ∷ 10 ∷ 15 ∷ 23 ∷ []) (0 ∷ 10 ∷ 10 ∷ 18 ∷ []) (letter_m ∷ letter_n ∷ letter_m ∷ []) (1 ∷ 1 ∷ 2 ∷ [])

abbrev coding : Lent
coding = lent_a (pos 0) (pos 3)

abbrev noncoding : Lent
noncoding = lent_a (pos 0) (pos 0)

abbrev of_length : Lent
of_length = lent_a (pos 1) (pos 3)

-- 4M 2I, whose last genome base lies behind the transcript's last, all of it CDS
abbrev longer : Lent
longer =
    lent (record { kind = pos 0; strand = pos 1; first = pos 0; count = pos 2; bits = pos 3; start = pos 0; end = pos 4; length = pos 4; records = pos 1 })
    (0 ∷ 4 ∷ 6 ∷ []) (0 ∷ 4 ∷ 4 ∷ []) (letter_m ∷ letter_i ∷ []) (1 ∷ 1 ∷ [])

-- of no kind, which does not hold together
abbrev broken : Lent
broken = lent_a (pos 2) (pos 3)

-- ---- what is asked: an interval of one number

abbrev g : ℤ → Interval GAsked
g a = record { from = Some a; to = Some a }

abbrev no_end : Interval GAsked
no_end = record { from = Some (pos 11); to = None }

abbrev n : ℤ → ℤ → Interval NAsked
n a o = record { from = record { base = a; offset = o }; to = record { base = a; offset = o } }

abbrev c : ℤ → ℤ → Interval CAsked
c a o = record { from = record { base = plain_c a; offset = o }; to = record { base = plain_c a; offset = o } }

-- the least and the largest number of 32 bits
abbrev least : ℤ
least = negsuc 2147483647

abbrev most : ℤ
most = pos 2147483647

-- ---- one question for each number of a row

-- what an answer is computed by, named once: to unfold this is to unfold all of it
computing : Unit {0}
unfolding checked holds source_of records_hold length_holds cds_holds segments_hold goes_on numbers_hold numbers_from exon_found exon_chosen all_below step_right is_letter kind_of elements_from entries_from genome transcript total first_below index_of nearer spot_in map_by_tables map_place n_of_place place_of_n c_of_n n_of_c skip_zero fits fit_of beyond c_position c_of_interval map_n_to_c n_position map_c_to_n inside turned n_of_spot whole_n map_g_to_n g_of_spot g_of_ends map_n_to_g ask_g_to_n ask_n_to_g ask_n_to_c ask_c_to_n ask_g_to_c ask_c_to_g ask_coding ask_in_bounds
computing = tt

-- g.34, behind the last base, is outside; a number far below the genome; no genome; no end; no kind
pub g_to_n_occurs :
    checked coding (ask_g_to_n true (g (pos 34)))
    ∷ checked coding (ask_g_to_n false (g least))
    ∷ checked of_length (ask_g_to_n true (g (pos 11)))
    ∷ checked coding (ask_g_to_n true no_end)
    ∷ checked broken (ask_g_to_n true (g (pos 11)))
    ∷ [] ≡ map Err g_to_n_refusals
unfolding computing
g_to_n_occurs = refl

-- n.19, behind the last base, is outside; n.1 with an offset that leads out of 32 bits; no genome; no kind
pub n_to_g_occurs :
    checked coding (ask_n_to_g true (n (pos 19) (pos 0)))
    ∷ checked coding (ask_n_to_g true (n (pos 1) most))
    ∷ checked of_length (ask_n_to_g true (n (pos 1) (pos 0)))
    ∷ checked broken (ask_n_to_g true (n (pos 1) (pos 0)))
    ∷ [] ≡ map Err n_to_g_refusals
unfolding computing
n_to_g_occurs = refl

-- no CDS; n.0; a number far before the CDS; no kind
pub n_to_c_occurs :
    checked noncoding (ask_n_to_c true (n (pos 1) (pos 0)))
    ∷ checked coding (ask_n_to_c true (n (pos 0) (pos 0)))
    ∷ checked of_length (ask_n_to_c false (n least (pos 0)))
    ∷ checked broken (ask_n_to_c true (n (pos 1) (pos 0)))
    ∷ [] ≡ map Err n_to_c_refusals
unfolding computing
n_to_c_occurs = refl

-- no CDS; c.-4, before the transcript; a number far behind the CDS's start; no kind
pub c_to_n_occurs :
    checked noncoding (ask_c_to_n true (c (pos 1) (pos 0)))
    ∷ checked coding (ask_c_to_n true (c (negsuc 3) (pos 0)))
    ∷ checked of_length (ask_c_to_n false (c most (pos 0)))
    ∷ checked broken (ask_c_to_n true (c (pos 1) (pos 0)))
    ∷ [] ≡ map Err c_to_n_refusals
unfolding computing
c_to_n_occurs = refl

-- no CDS; g.10 is outside; g.5 of 4M2I is n.4_5, whose end is behind the transcript; a number far below the genome; no genome; no end; no kind
pub g_to_c_occurs :
    checked noncoding (ask_g_to_c true (g (pos 11)))
    ∷ checked coding (ask_g_to_c true (g (pos 10)))
    ∷ checked longer (ask_g_to_c true (g (pos 5)))
    ∷ checked coding (ask_g_to_c false (g least))
    ∷ checked of_length (ask_g_to_c true (g (pos 11)))
    ∷ checked coding (ask_g_to_c true no_end)
    ∷ checked broken (ask_g_to_c true (g (pos 11)))
    ∷ [] ≡ map Err g_to_c_refusals
unfolding computing
g_to_c_occurs = refl

-- no CDS; c.-4; c.-3 with an offset that leads out of 32 bits; no genome; no kind
pub c_to_g_occurs :
    checked noncoding (ask_c_to_g true (c (pos 1) (pos 0)))
    ∷ checked coding (ask_c_to_g true (c (negsuc 3) (pos 0)))
    ∷ checked coding (ask_c_to_g true (c (negsuc 2) most))
    ∷ checked of_length (ask_c_to_g true (c (pos 1) (pos 0)))
    ∷ checked broken (ask_c_to_g true (c (pos 1) (pos 0)))
    ∷ [] ≡ map Err c_to_g_refusals
unfolding computing
c_to_g_occurs = refl

-- no kind
pub coding_occurs : checked broken ask_coding ∷ [] ≡ map Err coding_refusals
unfolding computing
coding_occurs = refl

-- no genome; no end; no kind
pub in_bounds_occurs :
    checked of_length (ask_in_bounds (g (pos 11)))
    ∷ checked coding (ask_in_bounds no_end)
    ∷ checked broken (ask_in_bounds (g (pos 11)))
    ∷ [] ≡ map Err in_bounds_refusals
unfolding computing
in_bounds_occurs = refl
