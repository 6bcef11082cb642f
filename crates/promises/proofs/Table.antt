-- The table of places holds of the definitions: each row computes. Assumes nothing.
use mathlib.Core.Path.{refl}
use Rattle.sequences.specs.Alleles.{prefix_len, suffix_len, changed_of}
use Rattle.numbering.specs.Numbers.{n_of_place, place_of_n, c_of_n, n_of_c, skip_zero}
use Rattle.cigar.specs.Elements.{is_letter, kind_of, genome, transcript, total}
use Rattle.cigar.specs.Text.{read_from}
use Rattle.cigar.specs.Read.{read_text}
use Rattle.spelling.specs.Write.{digits_by, decimal, element_text, elements_text}
use Rattle.segments.specs.Tables.{entries_from}
use Rattle.finding.specs.Finding.{first_below, index_of}
use Rattle.segments.specs.Places.{spot_in, nearer, map_by_tables, map_place}
use Rattle.segments.specs.Exons.{exon_found, exon_chosen}
use Rattle.transcript.specs.Building.{parts_of, elements_after, elements_of, numbers_after, numbers_of, first_start, build}
use Rattle.whole.specs.Fits.{fit_of, fits}
use Rattle.coding.specs.Coding.{beyond, c_position, c_of_interval, map_n_to_c, n_position, map_c_to_n}
use Rattle.spots.specs.Mapping.{inside, turned, n_of_spot, g_of_spot, whole_n, map_g_to_n, g_of_ends, map_n_to_g}
use Rattle.records.specs.Faults.{faults, faults_after, own_fault, pair_fault, follow_fault, span_fault, start_fault, rise_fault, join_fault}
use Rattle.reading.specs.Reading.{spanning, read_first, read_next, exons_after, exons_of}
use Rattle.judging.specs.Judging.{last_fault, range_fault, judge_on, judge_input}
use Rattle.mapper.specs.Chains.{map_g_to_c, map_c_to_g}
use Rattle.mapper.specs.Asking.{ask_g_to_n, ask_in_bounds}
use Rattle.promises.specs.Demands.{ours}
use Rattle.promises.specs.Table.{TableOfPlaces}

pub table_of_places : TableOfPlaces ours
unfolding kind_of genome transcript total entries_from first_below index_of spot_in nearer map_by_tables map_place exon_found exon_chosen n_of_place place_of_n c_of_n n_of_c skip_zero inside turned n_of_spot g_of_spot fit_of fits whole_n map_g_to_n g_of_ends map_n_to_g beyond c_position c_of_interval map_n_to_c n_position map_c_to_n map_g_to_c map_c_to_g parts_of elements_after elements_of numbers_after numbers_of first_start build ask_g_to_n ask_in_bounds is_letter read_from read_text digits_by decimal element_text elements_text prefix_len suffix_len changed_of judge_input judge_on last_fault range_fault faults faults_after own_fault pair_fault follow_fault span_fault start_fault rise_fault join_fault exons_of exons_after spanning read_first read_next
table_of_places = refl
