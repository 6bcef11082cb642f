-- g. to n. and back of a transcript that lies on the genome, as the code goes: the lengths are the tables' last entries, 14 is tested first, and 17 is asked of each end. Assumes nothing.
use Rattle.std.specs.Prelude.{ℕ, ◌<◌, List, ◌≡◌, Bool, true, false, ◌&&◌, ℤ, get_or}
use Rattle.std.proofs.Common.{arith, sym, subst}
use Rattle.refusals.specs.declared.Refusal.TheVariants.{Outside}
use Rattle.refusals.specs.Outcome.{Err}
use Rattle.numbering.specs.Numbers.{place_of_n}
use Rattle.segments.specs.Tables.{Tables, read}
use Rattle.cigar.specs.Elements.{genome, transcript}
use Rattle.segments.specs.Places.{Spot, End}
use Rattle.segments.specs.Places.End.{start, stop}
use Rattle.segments.proofs.laws.Spotting.{number_below}
use Rattle.segments.specs.laws.Meaning.{holds_means}
use Rattle.segments.specs.Exons.{last_number, exon_found, exon_chosen}
use Rattle.segments.specs.laws.Exons.{read_number}
use Rattle.segments.specs.laws.Reading.{read_length, last_genome, last_transcript}
use Rattle.segments.specs.Paper.{to_transcript, to_genome}
use Rattle.transcript.specs.Transcript.{exon_number, genome_length, transcript_length}
use Rattle.positions.specs.Positions.{Interval, NAsked}
use Rattle.positions.specs.Answers.{g_fits, n_fits, fitting}
use Rattle.positions.specs.laws.Ends.{ends_fit}
use Rattle.spots.specs.Mapping.{inside, turned, found_exons, chosen_exons, place_of_g, n_of_spot, whole_n, map_g_to_n, g_of_spot, g_of_ends}
use Rattle.spots.specs.Aligned.{aligned_by, number_by, Aligns, n_joined, g_joined}
use Rattle.spots.specs.declared.Alignment.{Alignment}

module _ (a : Alignment) (x : Tables) (exons : List ℕ) (sound : Aligns a x) where
  pub span_is : genome_length (aligned_by a x exons) ≡ get_or x.genome a.count 0
  span_is = last_genome x a.count (holds_means x a.count sound.segments)

  pub length_is : transcript_length (aligned_by a x exons) ≡ get_or x.transcript a.count 0
  length_is = last_transcript x a.count (holds_means x a.count sound.segments)

  -- a place's segment is one of those that there are
  pub on_transcript : (p : ℤ) (e : End) (forward : Bool) → (to_transcript x a.count p e forward).number < a.count
  on_transcript p e forward = rw (read_length x a.count) at (number_below genome transcript (read x a.count) p e forward (omega (arith, sound.count_from, read_length x a.count)))

  pub on_genome : (p : ℤ) (e : End) → (to_genome x a.count p e).number < a.count
  on_genome p e = rw (read_length x a.count) at (number_below transcript genome (read x a.count) p e true (omega (arith, sound.count_from, read_length x a.count)))

  -- the exon numbers of two spots, by the table
  abbrev found : Spot → Spot → Interval ℕ
  found s e = found_exons a.forward (number_by a exons) s e

  abbrev chosen : Spot → Spot → Interval ℕ
  chosen s e = chosen_exons a.forward (number_by a exons) s e

  found_is : (s e : Spot) → found_exons a.forward (exon_number (aligned_by a x exons)) s e ≡ found s e
  unfolding exon_found
  found_is s e = simp (read_number exons a.count (last_number a.forward a.records))

  chosen_is : (s e : Spot) → chosen_exons a.forward (exon_number (aligned_by a x exons)) s e ≡ chosen s e
  unfolding exon_chosen
  chosen_is s e = simp (read_number exons a.count (last_number a.forward a.records))

  -- g. to n.: the places of the two numbers, whether strict mode takes them, and what they map to
  module _ (strict : Bool) (from to : ℤ) where
    abbrev pub g_from : ℤ
    g_from = place_of_g a.first from

    abbrev pub g_to : ℤ
    g_to = place_of_g a.first to

    abbrev pub g_inside : Bool
    g_inside = inside strict (get_or x.genome a.count 0) g_from && inside strict (get_or x.genome a.count 0) g_to

    abbrev pub n_from : Spot
    n_from = to_transcript x a.count g_from start a.forward

    abbrev pub n_to : Spot
    n_to = to_transcript x a.count g_to stop a.forward

    pub n_answered : g_inside ≡ true → map_g_to_n strict (aligned_by a x exons) (record { from = from; to = to }) ≡ n_joined a.forward (get_or x.transcript a.count 0) (found n_from n_to) n_from n_to
    unfolding map_g_to_n whole_n n_of_spot n_joined
    n_answered e = simp (span_is, length_is, e, ← found_is n_from n_to) (ends_fit n_fits _ _ _)

    pub n_refused : g_inside ≡ false → map_g_to_n strict (aligned_by a x exons) (record { from = from; to = to }) ≡ Err Outside
    unfolding map_g_to_n whole_n
    n_refused e = simp (span_is, e)

  -- n. to g. of two positions in genomic order, likewise
  module _ (strict : Bool) (u v : NAsked) where
    abbrev pub t_from : ℤ
    t_from = turned a.forward (get_or x.transcript a.count 0) (place_of_n u.base)

    abbrev pub t_to : ℤ
    t_to = turned a.forward (get_or x.transcript a.count 0) (place_of_n v.base)

    abbrev pub t_inside : Bool
    t_inside = inside strict (get_or x.transcript a.count 0) t_from && inside strict (get_or x.transcript a.count 0) t_to

    abbrev pub s_from : Spot
    s_from = to_genome x a.count t_from start

    abbrev pub s_to : Spot
    s_to = to_genome x a.count t_to stop

    pub g_answered : t_inside ≡ true → fitting g_fits (g_of_ends strict (aligned_by a x exons) u v) ≡ g_joined a.forward a.first (chosen s_from s_to) s_from s_to u.offset v.offset
    unfolding g_of_ends g_of_spot g_joined
    g_answered e = simp (length_is, e, ← chosen_is s_from s_to) (ends_fit g_fits _ _ _)

    pub g_refused : t_inside ≡ false → fitting g_fits (g_of_ends strict (aligned_by a x exons) u v) ≡ Err Outside
    unfolding g_of_ends
    g_refused e = simp (length_is, e)

-- a spot's segment is one of so many where that of the same spot is
pub same_number : {s u : Spot} {n : ℕ} → s ≡ u → u.number < n → s.number < n
same_number {n = n} e h = subst (λ (a : Spot). a.number < n) (sym e) h
