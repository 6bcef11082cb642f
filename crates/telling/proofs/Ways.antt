-- What each of the three questions is, where the transcript lies on the genome: of one sure base by its spot, of one that is not by where it lies, and of any interval. Assumes nothing.
use Prim.Native.Nat.{ℕ}
use mathlib.Core.Bool.{Bool, true, false}
use mathlib.Core.Path.{◌≡◌, ap, ◌∙◌}
use Rattle.std.specs.Prelude.{Option}
use lib.IntN.{ℤ}
use lib.ListN.{get_or}
use Rattle.refusals.specs.Outcome.{Outcome, Ok, and_then}
use Rattle.holding.specs.Holding.{Lent, checked}
use Rattle.segments.specs.Places.{Spot}
use Rattle.segments.specs.Places.End.{start}
use Rattle.segments.specs.Paper.{to_transcript, to_genome}
use Rattle.transcript.specs.Transcript.{Transcript}
use Rattle.positions.specs.Positions.{Interval, GAsked, CAsked, GPosition, NPosition, asks_n}
use Rattle.positions.specs.Answers.{Answer, chain}
use Rattle.coding.specs.Coding.{map_n_to_c}
use Rattle.spots.specs.Mapping.{inside, map_g_to_n, map_n_to_g}
use Rattle.spots.specs.Aligned.{aligned_by, Aligns}
use Rattle.lone.specs.Lone.{n_once, g_once, n_beside, g_beside}
use Rattle.lone.specs.laws.Lone.{lone_to_n, lone_to_g, beside_to_n, beside_to_g}
use Rattle.spots.specs.declared.Alignment.{Alignment}
use Rattle.chaining.specs.Given.{given}
use Rattle.mapper.specs.Asking.{ask_g_to_n, ask_g_to_c, ask_c_to_g}
use Rattle.knowing.specs.Knowing.{known_of, paper_coding}
use Rattle.knowing.specs.laws.Known.{known_lies}
use Rattle.mapper.specs.laws.Lying.{lying_g_to_n, lying_g_to_c, lying_c_to_g}
use Rattle.chaining.specs.laws.Plain.{plain_first}
use Rattle.knowing.specs.declared.Cds.{Cds}
use Rattle.knowing.specs.declared.Known.TheVariants as known
use Rattle.surely.specs.Surely.{Named}
use Rattle.telling.specs.Seeking.{Based}

module _ (x : Lent) (a : Alignment) (c : Option Cds) (k : known_of x ≡ Ok (known.Aligned c a)) (strict : Bool) where
  abbrev lies : Transcript
  lies = aligned_by a x.tables x.exons

  abbrev long : ℕ
  long = get_or x.tables.transcript a.count 0

  sound : Aligns a x.tables
  sound = (known_lies x a c k).sound

  -- ---- from the genome, by the ends that are given

  pub n_by_ends : (q : Interval GAsked) (o : Outcome (Interval ℤ)) → o ≡ given q → checked x (ask_g_to_n strict q) ≡ and_then o (map_g_to_n strict lies)
  n_by_ends q o e = rw e (lying_g_to_n x a c k strict q)

  pub c_by_ends : (q : Interval GAsked) (o : Outcome (Interval ℤ)) → o ≡ given q → checked x (ask_g_to_c strict q) ≡ chain asks_n (and_then o (map_g_to_n strict lies)) (map_n_to_c strict long (paper_coding c))
  c_by_ends q o e = rw e (lying_g_to_c x a c k strict q)

  -- of a base that both ends are, by the spot s of its place p
  module _ (q : Interval GAsked) (o : Outcome (Interval ℤ)) (e : o ≡ given q) (p : ℤ) (b : Based a o p) (s : Spot) (within : inside true (get_or x.tables.genome a.count 0) p ≡ true) (one : s ≡ to_transcript x.tables a.count p start a.forward) where
    one_place : checked x (ask_g_to_n strict q) ≡ map_g_to_n strict lies (record { from = b.g; to = b.g })
    one_place = rw b.both at (n_by_ends q o e)

    one_place_c : checked x (ask_g_to_c strict q) ≡ chain asks_n (map_g_to_n strict lies (record { from = b.g; to = b.g })) (map_n_to_c strict long (paper_coding c))
    one_place_c = rw b.both at (c_by_ends q o e)

    -- which is sure
    its_n : s.sure ≡ true → map_g_to_n strict lies (record { from = b.g; to = b.g }) ≡ n_once a x.tables.transcript x.exons s
    its_n = lone_to_n a x.tables x.exons sound strict b.g s (rw b.place at within) (rw b.place at one)

    pub one_base : s.sure ≡ true → checked x (ask_g_to_n strict q) ≡ n_once a x.tables.transcript x.exons s
    one_base u = one_place ∙ its_n u

    pub one_base_c : s.sure ≡ true → checked x (ask_g_to_c strict q) ≡ chain asks_n (n_once a x.tables.transcript x.exons s) (map_n_to_c strict long (paper_coding c))
    one_base_c u = one_place_c ∙ ap (λ (i : Answer NPosition). chain asks_n i (map_n_to_c strict long (paper_coding c))) (its_n u)

    -- and one that is not
    lies_n : s.sure ≡ false → map_g_to_n strict lies (record { from = b.g; to = b.g }) ≡ n_beside a x.tables.transcript x.exons s.place s.number
    lies_n = beside_to_n a x.tables x.exons sound strict b.g s (rw b.place at within) (rw b.place at one)

    pub base_beside : s.sure ≡ false → checked x (ask_g_to_n strict q) ≡ n_beside a x.tables.transcript x.exons s.place s.number
    base_beside u = one_place ∙ lies_n u

    pub base_beside_c : s.sure ≡ false → checked x (ask_g_to_c strict q) ≡ chain asks_n (n_beside a x.tables.transcript x.exons s.place s.number) (map_n_to_c strict long (paper_coding c))
    base_beside_c u = one_place_c ∙ ap (λ (i : Answer NPosition). chain asks_n i (map_n_to_c strict long (paper_coding c))) (lies_n u)

  -- ---- from c., by one name, whose place is p, and its spot s
  module _ (q : Interval CAsked) (p : ℤ) (n : Named strict a x.tables.transcript (paper_coding c) q p) (s : Spot) (within : inside true long p ≡ true) (one : s ≡ to_genome x.tables a.count p start) where
    -- what it is, by what n. to g. is of its n. position
    by_name : (y : Answer GPosition) → map_n_to_g strict lies (record { from = record { base = n.at.base; offset = q.from.offset }; to = record { base = n.at.base; offset = q.from.offset } }) ≡ y → checked x (ask_c_to_g strict q) ≡ y
    by_name y f =
        lying_c_to_g x a c k strict q
        ∙ (ap (λ (i : Answer NPosition). chain asks_n i (map_n_to_g strict lies)) n.both
        ∙ (plain_first _
        ∙ (ap (λ (o : ℤ). map_n_to_g strict lies (record { from = record { base = n.at.base; offset = o }; to = record { base = n.at.base; offset = o } })) n.own
        ∙ f)))

    pub one_name : s.sure ≡ true → checked x (ask_c_to_g strict q) ≡ g_once a x.exons s q.from.offset
    one_name u = by_name _ (lone_to_g a x.tables x.exons sound strict n.at.base q.from.offset s (rw n.place at within) (rw n.place at one) u)

    pub name_beside : s.sure ≡ false → checked x (ask_c_to_g strict q) ≡ g_beside a x.exons s.place s.number q.from.offset
    name_beside u = by_name _ (beside_to_g a x.tables x.exons sound strict n.at.base q.from.offset s (rw n.place at within) (rw n.place at one) u)
