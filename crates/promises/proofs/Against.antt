-- What the promises shut out: a mapper that refuses everything, one that always says n.1, one that on strand -1 does not exchange the ends, and one that always says exon 1, whatever else they answer. Assumes nothing.
use Rattle.refusals.specs.declared.Refusal.{Refusal}
use Rattle.std.specs.Prelude.{if◌then◌else◌}
use Prim.Native.Nat.{ℕ}
use native.Mathlib.Omega.{arith}
use mathlib.Core.Bool.{Bool}
use mathlib.Core.List.{List}
use mathlib.Core.Path.{◌≡◌, sym, ap, ◌∙◌}
use lib.IntN.{ℤ, pos}
use lib.ListN.{get_or}
use Rattle.refusals.specs.declared.Refusal.TheVariants.{NoRecords}
use Rattle.refusals.specs.Outcome.{Ok, Err, through}
use Rattle.whole.specs.laws.Whole.{order}
use Rattle.whole.specs.Fits.{fit_of, fits}
use Rattle.numbering.specs.Numbers.{n_of_place, place_of_n}
use Rattle.cigar.specs.Elements.{kind_of, genome, transcript, total}
use Rattle.segments.specs.Tables.{entries_from}
use Rattle.finding.specs.Finding.{first_below, index_of}
use Rattle.segments.specs.Places.{spot_in, nearer, map_by_tables, map_place}
use Rattle.transcript.specs.Transcript.{Transcript}
use Rattle.transcript.specs.Building.{parts_of, elements_after, elements_of, first_start, build}
use Rattle.positions.specs.Positions.{Interval, NAsked, GPosition, NPosition}
use Rattle.positions.specs.Answers.{exons_of, Marked, Answer, certainly, plainly}
use Rattle.spots.specs.Mapping.{inside, turned, n_of_spot, whole_n, map_g_to_n, g_of_spot, g_of_ends, map_n_to_g}
use Rattle.promises.specs.Demands.{Mapper, Demand2Built, single}
use Rattle.promises.specs.Table.{Reply, A, TableOfPlaces}
use Rattle.promises.specs.Table.Reply.{in_n, in_g}
use Rattle.promises.proofs.Examples.{input_a, all_build, second, of_a}

-- where an answer starts
abbrev start_n : Answer NPosition → ℤ
start_n (Ok a) = a.interval.from.base
start_n (Err k) = pos 0

abbrev start_g : Answer GPosition → ℤ
start_g (Ok a) = a.interval.from.base
start_g (Err k) = pos 0

-- A g.12 is n.2
second_is_2 : (m : Mapper) → Demand2Built m → (b : Answer NPosition) → ((strict : Bool) (t : Transcript) (i : Interval ℤ) → start_n (m.g_to_n strict t i) ≡ start_n b) → start_n b ≡ pos 2
unfolding second build total
second_is_2 m d b always = sym (always _ _ _) ∙ ap start_n ((d input_a A all_build.0).named.exon_base 1 (second A of_a)).g_to_n

-- it refuses everything, with whatever numbers
pub refusing_fails : (m : Mapper) → ((strict : Bool) (t : Transcript) (i : Interval ℤ) → (k : Refusal) × (m.g_to_n strict t i ≡ Err k)) → Demand2Built m → ⊥
refusing_fails m refuses d =
    let h = second_is_2 m d (Err NoRecords) (λ strict t i. ap start_n (refuses strict t i).1) in
    omega order

-- it always says n.1, with whatever exon numbers
abbrev n1 : Interval NPosition
n1 = single (record { base = pos 1; offset = pos 0 })

pub saying_n1_fails : (m : Mapper) → ((strict : Bool) (t : Transcript) (i : Interval ℤ) → (k : Interval ℕ) × (m.g_to_n strict t i ≡ certainly k n1)) → Demand2Built m → ⊥
saying_n1_fails m says d =
    let h = second_is_2 m d (plainly n1) (λ strict t i. ap start_n (says strict t i).1) in
    omega order

-- on strand -1 it exchanges ours once more, so that the ends stand as they came
abbrev exchanged : {P : Type 0} → Bool → Interval P → Interval P
exchanged forward i = if forward then i else record { from = i.to; to = i.from }

abbrev exchanged_in : Bool → Answer NPosition → Answer NPosition
exchanged_in forward = through (λ (a : Marked NPosition). record { mark = a.mark; interval = exchanged forward a.interval })

answer_n : {a b : Answer NPosition} → in_n a ≡ in_n b → a ≡ b
answer_n e = cc

-- row 22 of the table is B g.11_33, which is n.1_18
pub unexchanged_n_fails : (m : Mapper) → ((strict : Bool) (t : Transcript) (i : Interval ℤ) → m.g_to_n strict t i ≡ exchanged_in t.forward (map_g_to_n strict t i)) → TableOfPlaces m → ⊥
unfolding kind_of genome transcript total entries_from first_below index_of spot_in nearer map_by_tables map_place n_of_place inside turned n_of_spot fit_of fits whole_n map_g_to_n parts_of elements_after elements_of first_start build
unexchanged_n_fails m turns h =
    let row = ap (λ (l : List Reply). get_or l 22 (in_n (Err NoRecords))) h in
    let start : pos 18 ≡ pos 1 = ap start_n (sym (turns _ _ _) ∙ answer_n row) in
    omega order

-- the exon number of an answer's end, and 1 where it refuses
abbrev end_exon : Answer NPosition → ℕ
end_exon (Ok a) = (exons_of a.mark).to
end_exon (Err k) = 1

-- it always says exon 1: the end of row 22 lies in exon 2
pub exon_1_fails : (m : Mapper) → ((strict : Bool) (t : Transcript) (i : Interval ℤ) → end_exon (m.g_to_n strict t i) ≡ 1) → TableOfPlaces m → ⊥
exon_1_fails m says h =
    let row = ap (λ (l : List Reply). get_or l 22 (in_n (Err NoRecords))) h in
    let number : ◌≡◌ {A = ℕ} 1 2 = sym (says _ _ _) ∙ ap end_exon (answer_n row) in
    omega arith

-- row 23 is B n.1_18, which is g.11_33
pub unexchanged_g_fails : (m : Mapper) → ((strict : Bool) (t : Transcript) (i : Interval NAsked) → m.n_to_g strict t i ≡ map_n_to_g strict t (exchanged t.forward i)) → TableOfPlaces m → ⊥
unfolding kind_of genome transcript total entries_from first_below index_of spot_in nearer map_by_tables map_place place_of_n inside turned g_of_spot fit_of fits g_of_ends map_n_to_g parts_of elements_after elements_of first_start build
unexchanged_g_fails m turns h =
    let row = ap (λ (l : List Reply). get_or l 23 (in_g (Err NoRecords))) h in
    let start : pos 33 ≡ pos 11 = ap start_g (sym (turns _ _ _) ∙ answer row) in
    omega order
  where
    answer : {a b : Answer GPosition} → in_g a ≡ in_g b → a ≡ b
    answer e = cc
