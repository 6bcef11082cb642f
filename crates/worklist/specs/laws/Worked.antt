-- A worked list, computed: over transcript A of document 01 (10M 5N 8M at 10..33) the base before the first, one base twice, the middle of the intron, the last base, and the one behind it. Assumes nothing.
use Rattle.std.specs.Prelude.{ℕ, List, [], ◌∷◌, map, ◌≡◌, refl, ℤ, pos}
use Rattle.refusals.specs.Numbers.{number}
use Rattle.refusals.specs.declared.Refusal.TheVariants.{Outside}
use Rattle.refusals.specs.Outcome.{Ok}
use Rattle.whole.specs.Fits.{fits, fit_of}
use Rattle.numbering.specs.Numbers.{n_of_place}
use Rattle.cigar.specs.Elements.{letter_m, letter_n, is_letter, kind_of, genome, transcript, total}
use Rattle.segments.specs.Tables.{step_right, all_below, segments_hold, elements_from, entries_from}
use Rattle.finding.specs.Finding.{first_below, index_of}
use Rattle.segments.specs.Places.{nearer, spot_in, map_by_tables, map_place}
use Rattle.segments.specs.Exons.{goes_on, numbers_hold, numbers_from, exon_found}
use Rattle.holding.specs.Holding.{Lent, lent, cds_holds, records_hold, holds, source_of, checked}
use Rattle.positions.specs.Positions.{NPosition}
use Rattle.positions.specs.Answers.{certainly}
use Rattle.spots.specs.Mapping.{inside, turned, n_of_spot, whole_n, map_g_to_n}
use Rattle.mapper.specs.Asking.{ask_g_to_n}
use Rattle.taking.specs.Taking.{g_asked}
use Rattle.layout.specs.Layout.{n_laid, laid, refusal}
use Rattle.worklist.specs.Worklist.{never_falls, largest, ask_steps, listed, slots_after}
use Rattle.worklist.specs.declared.Slot.{Slot}

abbrev lent_a : Lent
lent_a =
    lent (record { kind = pos 0; strand = pos 1; first = pos 10; count = pos 3; bits = pos 0; start = pos 0; end = pos 0; length = pos 0; records = pos 2 })
    (0 ∷ 10 ∷ 15 ∷ 23 ∷ []) (0 ∷ 10 ∷ 10 ∷ 18 ∷ []) (letter_m ∷ letter_n ∷ letter_m ∷ []) (1 ∷ 1 ∷ 2 ∷ [])

-- a slot that is refused with this number, or not yet answered where it is 0
abbrev without : ℕ → ℤ → Slot
without k g = record { position = g; answer = refusal k }

-- a slot with a certain n. position in an exon of this number
abbrev named : ℤ → ℤ → ℤ → ℕ → Slot
named g base offset exon =
    let n : NPosition = record { base = base; offset = offset } in
    record { position = g; answer = laid n_laid (certainly (record { from = exon; to = exon }) (record { from = n; to = n })) }

abbrev asked : List Slot
asked = map (without 0) (pos 10 ∷ pos 11 ∷ pos 11 ∷ pos 23 ∷ pos 33 ∷ pos 34 ∷ [])

-- what both are computed by: to unfold this is to unfold all of it
computing : Unit {0}
unfolding checked holds source_of records_hold cds_holds segments_hold goes_on numbers_hold numbers_from exon_found all_below step_right is_letter kind_of elements_from entries_from genome transcript total first_below index_of nearer spot_in map_by_tables map_place n_of_place fits fit_of inside turned n_of_spot whole_n map_g_to_n ask_g_to_n g_asked never_falls largest ask_steps
computing = tt

-- g.33 lies in the third segment
pub worked_steps : listed lent_a asked ≡ Ok 2
unfolding computing
worked_steps = refl

pub worked_slots :
    slots_after lent_a asked
    ≡ without (number Outside) (pos 10)
    ∷ named (pos 11) (pos 1) (pos 0) 1
    ∷ named (pos 11) (pos 1) (pos 0) 1
    ∷ named (pos 23) (pos 10) (pos 3) 1
    ∷ named (pos 33) (pos 18) (pos 0) 2
    ∷ without (number Outside) (pos 34)
    ∷ []
unfolding computing
worked_slots = refl
