-- What a lone base is answered with: its one spot's position at both ends, certain, or 17; and one that is not sure. Assumes nothing.
use Rattle.std.specs.Prelude.{ℕ, Bool, true, false, List, ◌≡◌, refl, ℤ, get_or, length}
use Rattle.std.proofs.lemmas.Bool.{false≢true}
use Rattle.std.proofs.Common.{sym, ap, ◌∙◌}
use Rattle.whole.specs.laws.Whole.{by_test}
use Rattle.numbering.specs.Numbers.{place_of_n}
use Rattle.cigar.specs.Elements.{Element, Kind, matches, inserts, deletes, skips, Side, genome, transcript}
use Rattle.cigar.specs.Read.{letters_of}
use Rattle.segments.specs.Tables.{Tables, entries_of, read}
use Rattle.segments.specs.Places.{segment_at, Spot, unsurely, left_nearer, nearer, spot_in, stop_of, map_by_tables, map_place}
use Rattle.finding.specs.Finding.{index_of}
use Rattle.segments.specs.Places.End.{start}
use Rattle.segments.specs.Exons.{exon_found, exon_chosen}
use Rattle.segments.specs.Paper.{to_transcript, to_genome}
use Rattle.positions.specs.Positions.{NAsked, GPosition, NPosition}
use Rattle.positions.specs.Answers.{Answer}
use Rattle.spots.specs.Mapping.{inside, turned, place_of_g, map_g_to_n, map_n_to_g}
use Rattle.spots.specs.Aligned.{aligned_by, number_by, Aligns, n_joined, g_joined}
use Rattle.lone.specs.Lone.{n_once, g_once, n_beside, g_beside}
use Rattle.lone.specs.laws.Once.{one_answered, one_back, one_joined, one_joined_back, either_order}
use Rattle.spots.specs.declared.Alignment.{Alignment}

-- what lies inside as in strict mode does so in either
inside_either : (strict : Bool) (len : ℕ) (p : ℤ) → inside true len p ≡ true → inside strict len p ≡ true
unfolding inside
inside_either true len p e = e
inside_either false len p e = refl

-- an N has sure places alone
edge_sure : (i : ℕ) (forward : Bool) (t : ℕ) (left right : ℤ) → (nearer i forward t left right).sure ≡ true
unfolding nearer
edge_sure i forward t left right = by_test (left_nearer forward left right) (λ n. rw n refl) (λ n. rw n refl)

-- so that a place that is not sure lies beside an I or a D
lies_beside : (from to : Side) (es : List Element) (p : ℤ) (forward : Bool) → let s = map_place from to es p start forward in s.sure ≡ false → s ≡ unsurely s.number s.place
unfolding map_place map_by_tables spot_in
lies_beside from to es p forward =
    let g = segment_at (entries_of from es) (entries_of to es) (letters_of es) (index_of (entries_of from es) (length es) p) in
    by_kind g.number g.does g.begins g.ends g.other
  where
    by_kind : (i : ℕ) (k : Kind) (f h t : ℕ) → let s = spot_in i k f h t p start forward in s.sure ≡ false → s ≡ unsurely s.number s.place
    by_kind i matches f h t n = absurd (false≢true (sym n))
    by_kind i inserts f h t n = refl
    by_kind i deletes f h t n = refl
    by_kind i skips f h t n = absurd (false≢true (sym n ∙ edge_sure i forward t _ _))

module _ (a : Alignment) (x : Tables) (exons : List ℕ) (sound : Aligns a x) (strict : Bool) where
  -- from the genome, by the spot s of the place of g
  module _ (g : ℤ) (s : Spot) (within : inside true (get_or x.genome a.count 0) (place_of_g a.first g) ≡ true) (one : s ≡ to_transcript x a.count (place_of_g a.first g) start a.forward) where
    answered : map_g_to_n strict (aligned_by a x exons) (record { from = g; to = g }) ≡ n_joined a.forward (get_or x.transcript a.count 0) (record { from = exon_found (number_by a exons) s; to = exon_found (number_by a exons) s }) s (stop_of s)
    answered = rw one (one_answered a x exons sound strict g (inside_either strict _ _ within))

    pub lone_to_n : s.sure ≡ true → map_g_to_n strict (aligned_by a x exons) (record { from = g; to = g }) ≡ n_once a x.transcript exons s
    lone_to_n is_sure = answered ∙ one_joined a.forward (get_or x.transcript a.count 0) _ s is_sure

    -- and one that is not sure, by where it lies
    pub beside_to_n : s.sure ≡ false → map_g_to_n strict (aligned_by a x exons) (record { from = g; to = g }) ≡ n_beside a x.transcript exons s.place s.number
    beside_to_n not_sure =
        let by : Spot → Answer NPosition = λ t. n_joined a.forward (get_or x.transcript a.count 0) (record { from = exon_found (number_by a exons) t; to = exon_found (number_by a exons) t }) t (stop_of t) in
        answered ∙ ap by (rw (← one) at (lies_beside genome transcript (read x a.count) (place_of_g a.first g) a.forward (rw (← one) not_sure)))

  -- from the transcript, by the spot s of the place of n, with the number's own offset o
  module _ (n o : ℤ) (s : Spot) (within : inside true (get_or x.transcript a.count 0) (turned a.forward (get_or x.transcript a.count 0) (place_of_n n)) ≡ true)
      (one : s ≡ to_genome x a.count (turned a.forward (get_or x.transcript a.count 0) (place_of_n n)) start) where
    abbrev asked : NAsked
    asked = record { base = n; offset = o }

    answered_back : map_n_to_g strict (aligned_by a x exons) (record { from = asked; to = asked }) ≡ g_joined a.forward a.first (record { from = exon_chosen a.forward (number_by a exons) s; to = exon_chosen a.forward (number_by a exons) s }) s (stop_of s) o o
    answered_back = either_order strict (aligned_by a x exons) asked ∙ rw one (one_back a x exons sound strict n o o (inside_either strict _ _ within))

    pub lone_to_g : s.sure ≡ true → map_n_to_g strict (aligned_by a x exons) (record { from = asked; to = asked }) ≡ g_once a exons s o
    lone_to_g is_sure = answered_back ∙ one_joined_back a.forward a.first _ s o is_sure

    pub beside_to_g : s.sure ≡ false → map_n_to_g strict (aligned_by a x exons) (record { from = asked; to = asked }) ≡ g_beside a exons s.place s.number o
    beside_to_g not_sure =
        let by : Spot → Answer GPosition = λ t. g_joined a.forward a.first (record { from = exon_chosen a.forward (number_by a exons) t; to = exon_chosen a.forward (number_by a exons) t }) t (stop_of t) o o in
        answered_back ∙ ap by (rw (← one) at (lies_beside transcript genome (read x a.count) (turned a.forward (get_or x.transcript a.count 0) (place_of_n n)) true (rw (← one) not_sure)))
