-- The mark of an answer: it is uncertain exactly where either end fell in an I or a D segment. Assumes nothing.
use Rattle.std.specs.Prelude.{ℕ, Bool, not, ◌&&◌, ◌||◌, List, ◌≡◌, ℤ, get_or, length, if◌then◌else◌}
use Rattle.std.proofs.Math.Bool.{true, false, or_comm}
use Rattle.std.proofs.Math.Path.{refl, subst}
use Rattle.std.proofs.Common.{ap}
use Rattle.refusals.specs.declared.Refusal.{Refusal}
use Rattle.refusals.specs.declared.Refusal.TheVariants.{Outside}
use Rattle.refusals.specs.Outcome.{Ok, Err}
use Rattle.refusals.specs.laws.Outcomes.{clash, same}
use Rattle.whole.specs.laws.Whole.{by_test}
use Rattle.numbering.specs.Numbers.{place_of_n}
use Rattle.cigar.specs.Elements.{Element, Side, Kind, kind_of, genome, transcript}
use Rattle.cigar.specs.Elements.Kind.{matches, inserts, deletes, skips}
use Rattle.cigar.specs.Read.{letters_of}
use Rattle.segments.specs.Tables.{entries_of}
use Rattle.segments.specs.Places.{End, left_nearer, nearer, spot_in, map_by_tables, map_place}
use Rattle.finding.specs.Finding.{index_of}
use Rattle.segments.specs.Places.End.{start, stop}
use Rattle.transcript.specs.Transcript.{Transcript, genome_length, transcript_length}
use Rattle.positions.specs.Positions.{Interval, NAsked, GPosition, NPosition}
use Rattle.positions.specs.Answers.{Mark, certain, uncertain, mark_of, exons_of, Marked, g_fits, n_fits}
use Rattle.positions.specs.laws.Ends.{fitting_is}
use Rattle.spots.specs.Mapping.{inside, turned, earlier, later, place_of_g, whole_n, map_g_to_n, g_of_ends, map_n_to_g}
use Rattle.places.specs.laws.Refusing.{n_inside}

-- an I or a D
abbrev pub gap : Kind → Bool
gap matches = false
gap inserts = true
gap deletes = true
gap skips = false

-- the place p of that side falls in an I or a D segment of the elements
abbrev pub fell : Side → List Element → ℤ → Bool
fell from es p = gap (kind_of (get_or (letters_of es) (index_of (entries_of from es) (length es) p) 0))

-- this is the mark of an interval, where `gaps` says that an end fell so
abbrev pub MarkedIf : Bool → Mark → Type 0
MarkedIf gaps m = m ≡ (if gaps then uncertain (exons_of m) else certain (exons_of m))

-- ---- a spot is sure exactly where its place did not fall so

edge_sure : (i : ℕ) (forward : Bool) (t : ℕ) (left right : ℤ) → (nearer i forward t left right).sure ≡ true
unfolding nearer
edge_sure i forward t left right = by_test (left_nearer forward left right) (λ e. rw e) (λ e. rw e)

spot_sure : (i : ℕ) (k : Kind) (f h t : ℕ) (p : ℤ) (e : End) (forward : Bool) → (spot_in i k f h t p e forward).sure ≡ not (gap k)
unfolding spot_in
spot_sure i matches f h t p e forward = refl
spot_sure i inserts f h t p e forward = refl
spot_sure i deletes f h t p e forward = refl
spot_sure i skips f h t p e forward = edge_sure i forward t _ _

sure_is : (from to : Side) (es : List Element) (p : ℤ) (e : End) (forward : Bool) → (map_place from to es p e forward).sure ≡ not (fell from es p)
unfolding map_place map_by_tables
sure_is from to es p e forward = spot_sure _ (kind_of (get_or (letters_of es) (index_of (entries_of from es) (length es) p) 0)) _ _ _ p e forward

mark_of_lem : (x y : Bool) (exons : Interval ℕ) → MarkedIf (x || y) (mark_of (not x && not y) exons)
mark_of_lem true y exons = refl
mark_of_lem false true exons = refl
mark_of_lem false false exons = refl

-- an interval of two spots that passed a test
spots_marked : {P : Type 0} (from to : Side) (es : List Element) (forward : Bool) (p q : ℤ) (test : Bool) (k : Refusal) (exons : Interval ℕ) (i : Interval P) (a : Marked P)
    → (if test then Ok (record { mark = mark_of ((map_place from to es p start forward).sure && (map_place from to es q stop forward).sure) exons; interval = i }) else Err k) ≡ Ok a
    → MarkedIf (fell from es p || fell from es q) a.mark
spots_marked {P} from to es forward p q true k exons i a e =
    subst (MarkedIf (fell from es p || fell from es q)) (ap (λ (x : Marked P). x.mark) (same e))
    (rw (sure_is from to es p start forward, sure_is from to es q stop forward) (mark_of_lem (fell from es p) (fell from es q) exons))
spots_marked from to es forward p q false k exons i a e = absurd (clash e)

-- ---- the mappings

-- a g. number's place fell so, and an n. number's, turned
abbrev pub g_fell : Transcript → ℤ → Bool
g_fell t g = fell genome t.elements (place_of_g t.first g)

abbrev pub n_fell : Transcript → ℤ → Bool
n_fell t n = fell transcript t.elements (turned t.forward (transcript_length t) (place_of_n n))

module _ (strict : Bool) (t : Transcript) where
  pub g_to_n_marked : (i : Interval ℤ) (a : Marked NPosition) → map_g_to_n strict t i ≡ Ok a → MarkedIf (g_fell t i.from || g_fell t i.to) a.mark
  unfolding map_g_to_n whole_n
  g_to_n_marked i a e =
      let p = place_of_g t.first i.from in
      let q = place_of_g t.first i.to in
      spots_marked genome transcript t.elements t.forward p q (inside strict (genome_length t) p && inside strict (genome_length t) q) Outside _ _ a (fitting_is n_fits (whole_n strict t i) a e)

  ends_marked : (u v : NAsked) (a : Marked GPosition) → g_of_ends strict t u v ≡ Ok a → MarkedIf (n_fell t u.base || n_fell t v.base) a.mark
  unfolding g_of_ends
  ends_marked u v a e = spots_marked transcript genome t.elements true _ _ (n_inside strict t u && n_inside strict t v) Outside _ _ a e

  pub n_to_g_marked : (i : Interval NAsked) (a : Marked GPosition) → map_n_to_g strict t i ≡ Ok a → MarkedIf (n_fell t i.from.base || n_fell t i.to.base) a.mark
  unfolding map_n_to_g
  n_to_g_marked i a e = subst (λ (gaps : Bool). MarkedIf gaps a.mark) (go t.forward) (ends_marked _ _ a (fitting_is g_fits _ a e))
    where
      go : (f : Bool) → (n_fell t (earlier f i.from i.to).base || n_fell t (later f i.from i.to).base) ≡ (n_fell t i.from.base || n_fell t i.to.base)
      go true = refl
      go false = or_comm (n_fell t i.to.base) (n_fell t i.from.base)
