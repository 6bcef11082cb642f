-- g. to n. and back of one number, as the code goes: its end's spot follows from its start's, so that both ends are answered by one spot with one exon. Assumes nothing.
use Rattle.std.specs.Prelude.{ℕ, List, ◌≡◌, refl, Bool, true, false, ℤ, get_or}
use Rattle.std.proofs.Common.{ap, ◌∙◌}
use Rattle.refusals.specs.declared.Refusal.TheVariants.{Outside}
use Rattle.refusals.specs.Outcome.{Err}
use Rattle.numbering.specs.Numbers.{place_of_n}
use Rattle.whole.specs.laws.Whole.{by_test}
use Rattle.segments.specs.Tables.{Tables}
use Rattle.cigar.specs.Elements.{genome, transcript}
use Rattle.segments.specs.Places.{Spot, segment_at, spot_of, stop_of, map_by_tables}
use Rattle.finding.specs.Finding.{index_of}
use Rattle.segments.specs.Places.End.{start}
use Rattle.segments.proofs.laws.Spotting.{stop_of_place}
use Rattle.segments.specs.laws.Meaning.{holds_means}
use Rattle.segments.specs.Exons.{exon_found, exon_chosen}
use Rattle.segments.specs.laws.Reading.{by_genome}
use Rattle.segments.specs.Paper.{to_transcript, to_genome}
use Rattle.transcript.specs.Transcript.{Transcript}
use Rattle.positions.specs.Positions.{Interval, NAsked}
use Rattle.positions.specs.Answers.{g_fits, fitting, mark_of, ends}
use Rattle.spots.specs.Mapping.{inside, turned, found_exons, chosen_exons, place_of_g, map_g_to_n, g_of_ends, map_n_to_g}
use Rattle.spots.specs.Aligned.{aligned_by, number_by, Aligns, n_end_at, n_joined, g_end_at, g_joined}
use Rattle.spots.specs.laws.Spans.{n_answered, n_refused, g_answered, g_refused}
use Rattle.spots.specs.declared.Alignment.{Alignment}

-- the end's exon is the start's
pub found_once : (number : ℕ → ℕ) (a : Spot) → exon_found number (stop_of a) ≡ exon_found number a
unfolding stop_of exon_found
found_once number a = by_test a.sure (λ t. rw t) (λ t. rw t)

pub chosen_once : (forward : Bool) (number : ℕ → ℕ) (a : Spot) → exon_chosen forward number (stop_of a) ≡ exon_chosen forward number a
unfolding stop_of exon_chosen
chosen_once forward number a = by_test a.sure (λ t. rw t) (λ t. rw t)

-- so that both ends, in either order, have its number
pub both_found : (forward : Bool) (number : ℕ → ℕ) (a : Spot) → found_exons forward number a (stop_of a) ≡ record { from = exon_found number a; to = exon_found number a }
both_found true number a = rw (found_once number a)
both_found false number a = rw (found_once number a)

pub both_chosen : (forward : Bool) (number : ℕ → ℕ) (a : Spot) → chosen_exons forward number a (stop_of a) ≡ record { from = exon_chosen forward number a; to = exon_chosen forward number a }
both_chosen forward number a = rw (chosen_once forward number a)

module _ (a : Alignment) (x : Tables) (exons : List ℕ) (sound : Aligns a x) where
  -- g. to n. of one number: its end's spot follows from its start's
  module _ (strict : Bool) (g : ℤ) where
    abbrev its_place : ℤ
    its_place = place_of_g a.first g

    abbrev its_spot : Spot
    its_spot = to_transcript x a.count its_place start a.forward

    -- the exon's number of both
    abbrev its_exon : ℕ
    its_exon = exon_found (number_by a exons) its_spot

    pub one_answered : inside strict (get_or x.genome a.count 0) its_place ≡ true
        → map_g_to_n strict (aligned_by a x exons) (record { from = g; to = g }) ≡ n_joined a.forward (get_or x.transcript a.count 0) (record { from = its_exon; to = its_exon }) its_spot (stop_of its_spot)
    one_answered e =
        n_answered a x exons sound strict g g (rw e refl)
        ∙ (ap (λ (s : Spot). n_joined a.forward (get_or x.transcript a.count 0) (found_exons a.forward (number_by a exons) its_spot s) its_spot s) (stop_of_place genome transcript _ _ _)
        ∙ ap (λ (i : Interval ℕ). n_joined a.forward (get_or x.transcript a.count 0) i its_spot (stop_of its_spot)) (both_found a.forward (number_by a exons) its_spot))

    pub one_refused : inside strict (get_or x.genome a.count 0) its_place ≡ false → map_g_to_n strict (aligned_by a x exons) (record { from = g; to = g }) ≡ Err Outside
    one_refused e = n_refused a x exons sound strict g g (rw e refl)

    -- by the segment that holds its place
    pub spot_at : (number : ℕ) → number ≡ index_of x.genome a.count its_place → spot_of (segment_at x.genome x.transcript x.letters number) its_place start a.forward ≡ its_spot
    unfolding map_by_tables
    spot_at number e = rw e (by_genome x a.count (holds_means x a.count sound.segments) sound.count_from its_place start a.forward)

  -- n. to g. of two positions with one number, likewise
  module _ (strict : Bool) (b o u : ℤ) where
    abbrev pub first_at : NAsked
    first_at = record { base = b; offset = o }

    abbrev pub second_at : NAsked
    second_at = record { base = b; offset = u }

    abbrev place_of_both : ℤ
    place_of_both = turned a.forward (get_or x.transcript a.count 0) (place_of_n b)

    abbrev spot_of_start : Spot
    spot_of_start = to_genome x a.count place_of_both start

    -- the exon's number of both
    abbrev once : ℕ
    once = exon_chosen a.forward (number_by a exons) spot_of_start

    pub one_back : inside strict (get_or x.transcript a.count 0) place_of_both ≡ true
        → fitting g_fits (g_of_ends strict (aligned_by a x exons) first_at second_at) ≡ g_joined a.forward a.first (record { from = once; to = once }) spot_of_start (stop_of spot_of_start) o u
    one_back e =
        g_answered a x exons sound strict first_at second_at (rw e refl)
        ∙ (ap (λ (s : Spot). g_joined a.forward a.first (chosen_exons a.forward (number_by a exons) spot_of_start s) spot_of_start s o u) (stop_of_place transcript genome _ _ _)
        ∙ ap (λ (i : Interval ℕ). g_joined a.forward a.first i spot_of_start (stop_of spot_of_start) o u) (both_chosen a.forward (number_by a exons) spot_of_start))

    pub one_back_refused : inside strict (get_or x.transcript a.count 0) place_of_both ≡ false → fitting g_fits (g_of_ends strict (aligned_by a x exons) first_at second_at) ≡ Err Outside
    one_back_refused e = g_refused a x exons sound strict first_at second_at (rw e refl)

-- n. to g. of a position that is both ends, which have no order
pub either_order : (strict : Bool) (t : Transcript) (n : NAsked) → map_n_to_g strict t (record { from = n; to = n }) ≡ fitting g_fits (g_of_ends strict t n n)
unfolding map_n_to_g
either_order strict t n = by_test t.forward (λ f. rw f) (λ f. rw f)

-- a sure spot is numbered once
pub one_joined : (forward : Bool) (len : ℕ) (exons : Interval ℕ) (a : Spot) → a.sure ≡ true → n_joined forward len exons a (stop_of a) ≡ ends (mark_of true exons) (n_end_at forward len a) (n_end_at forward len a)
unfolding n_joined stop_of
one_joined true len exons a e = rw e refl
one_joined false len exons a e = rw e refl

pub one_joined_back : (forward : Bool) (first : ℕ) (exons : Interval ℕ) (a : Spot) (o : ℤ) → a.sure ≡ true → g_joined forward first exons a (stop_of a) o o ≡ ends (mark_of true exons) (g_end_at forward first a.place o) (g_end_at forward first a.place o)
unfolding g_joined stop_of
one_joined_back forward first exons a o e = rw e refl
