-- What is known where g. to n. or n. to g. answers: each end has the number of an exon, and every number fits. Assumes nothing.
use Rattle.std.specs.Prelude.{ℕ, Bool, false, ◌&&◌, ◌≡◌, refl, ℤ, if◌then◌else◌}
use Rattle.std.proofs.Math.Bool.{true}
use Rattle.std.proofs.Common.{ap, subst}
use Rattle.refusals.specs.declared.Refusal.{Refusal}
use Rattle.refusals.specs.declared.Refusal.TheVariants.{Outside}
use Rattle.refusals.specs.Outcome.{Ok, Err}
use Rattle.refusals.specs.laws.Outcomes.{clash, same}
use Rattle.numbering.specs.Numbers.{place_of_n}
use Rattle.cigar.specs.Elements.{genome, transcript}
use Rattle.segments.specs.Places.{map_place}
use Rattle.segments.specs.Places.End.{start, stop}
use Rattle.segments.specs.Exons.{IsExon, exon_found, exon_chosen}
use Rattle.transcript.specs.Transcript.{Transcript, exon_number, genome_length, transcript_length}
use Rattle.positions.specs.Positions.{Interval, NAsked, GPosition, NPosition}
use Rattle.positions.specs.Answers.{Mark, mark_of, exons_of, Marked, g_fits, n_fits, Fitted}
use Rattle.positions.specs.laws.Ends.{fitting_is, fitting_fits}
use Rattle.spots.specs.Mapping.{inside, turned, earlier, later, found_exons, chosen_exons, place_of_g, whole_n, map_g_to_n, g_of_ends, map_n_to_g}
use Rattle.places.specs.laws.Refusing.{n_inside}

-- the mark of an interval across the genome, where there are so many records: certain or uncertain, and each end has the number of an exon
pub record Across (records : ℕ) (m : Mark) : Type 0 where
  pub sure : Bool
  pub is : m ≡ mark_of sure (exons_of m)
  pub from : IsExon records (exons_of m).from
  pub to : IsExon records (exons_of m).to

across_of : (records : ℕ) (sure : Bool) (exons : Interval ℕ) → IsExon records exons.from → IsExon records exons.to → Across records (mark_of sure exons)
across_of records true exons from to = record { sure = true; is = refl; from = from; to = to }
across_of records false exons from to = record { sure = false; is = refl; from = from; to = to }

-- an interval that passed a test
across_if : {P : Type 0} (records : ℕ) (test sure : Bool) (k : Refusal) (exons : Interval ℕ) (i : Interval P) (a : Marked P) → IsExon records exons.from → IsExon records exons.to
    → (if test then Ok (record { mark = mark_of sure exons; interval = i }) else Err k) ≡ Ok a → Across records a.mark
across_if {P} records true sure k exons i a from to e = subst (Across records) (ap (λ (x : Marked P). x.mark) (same e)) (across_of records sure exons from to)
across_if records false sure k exons i a from to e = absurd (clash e)

module _ (strict : Bool) (t : Transcript) where
  pub g_to_n_fits : (i : Interval ℤ) (a : Marked NPosition) → map_g_to_n strict t i ≡ Ok a → Fitted n_fits a.interval
  unfolding map_g_to_n
  g_to_n_fits i a e = fitting_fits n_fits (whole_n strict t i) a e

  pub n_to_g_fits : (i : Interval NAsked) (a : Marked GPosition) → map_n_to_g strict t i ≡ Ok a → Fitted g_fits a.interval
  unfolding map_n_to_g
  n_to_g_fits i a e = fitting_fits g_fits (g_of_ends strict t (earlier t.forward i.from i.to) (later t.forward i.from i.to)) a e

  -- whichever segment an end is numbered by
  module _ (records : ℕ) (numbered : (i : ℕ) → IsExon records (exon_number t i)) where
    pub g_to_n_across : (i : Interval ℤ) (a : Marked NPosition) → map_g_to_n strict t i ≡ Ok a → Across records a.mark
    unfolding map_g_to_n whole_n exon_found
    g_to_n_across i a e =
        let p = place_of_g t.first i.from in
        let q = place_of_g t.first i.to in
        let from = map_place genome transcript t.elements p start t.forward in
        let to = map_place genome transcript t.elements q stop t.forward in
        across_if records (inside strict (genome_length t) p && inside strict (genome_length t) q) (from.sure && to.sure) Outside (found_exons t.forward (exon_number t) from to) _ a (numbered _) (numbered _) (fitting_is n_fits (whole_n strict t i) a e)

    ends_across : (u v : NAsked) (a : Marked GPosition) → g_of_ends strict t u v ≡ Ok a → Across records a.mark
    unfolding g_of_ends exon_chosen
    ends_across u v a e =
        let from = map_place transcript genome t.elements (turned t.forward (transcript_length t) (place_of_n u.base)) start true in
        let to = map_place transcript genome t.elements (turned t.forward (transcript_length t) (place_of_n v.base)) stop true in
        across_if records (n_inside strict t u && n_inside strict t v) (from.sure && to.sure) Outside (chosen_exons t.forward (exon_number t) from to) _ a (numbered _) (numbered _) e

    pub n_to_g_across : (i : Interval NAsked) (a : Marked GPosition) → map_n_to_g strict t i ≡ Ok a → Across records a.mark
    unfolding map_n_to_g
    n_to_g_across i a e = ends_across _ _ a (fitting_is g_fits _ a e)
