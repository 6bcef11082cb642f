-- What each question is where what is lent lies on the genome: the mappings over how it lies. Assumes nothing.
use Rattle.std.specs.Prelude.{ℕ, ◌≡◌, Bool, Option, get_or}
use Rattle.std.proofs.Math.Path.{ap}
use Rattle.std.proofs.Common.{◌∙◌}
use Rattle.refusals.specs.Outcome.{Ok, and_then, through}
use Rattle.holding.specs.Holding.{Lent, checked}
use Rattle.positions.specs.Positions.{Interval, GAsked, NAsked, CAsked, asks_n}
use Rattle.positions.specs.Answers.{chain}
use Rattle.coding.specs.Coding.{map_n_to_c, map_c_to_n}
use Rattle.spots.specs.Mapping.{n_of_spot, whole_n, map_g_to_n, g_of_spot, g_of_ends, map_n_to_g, lies_in_bounds}
use Rattle.spots.specs.Aligned.{aligned_by}
use Rattle.spots.specs.declared.Alignment.{Alignment}
use Rattle.knowing.specs.Knowing.{known_of, paper_coding}
use Rattle.knowing.specs.laws.Known.{Lies, known_lies, ask_lying}
use Rattle.knowing.specs.declared.Cds.{Cds}
use Rattle.knowing.specs.declared.Known.TheVariants as known
use Rattle.chaining.specs.Given.{given, codes}
use Rattle.mapper.specs.Asking.{ask_g_to_n, ask_n_to_g, ask_n_to_c, ask_c_to_n, ask_g_to_c, ask_c_to_g, ask_coding, ask_in_bounds}

module _ (x : Lent) (a : Alignment) (c : Option Cds) (k : known_of x ≡ Ok (known.Aligned c a)) where
  abbrev fact : Lies x a c
  fact = known_lies x a c k

  abbrev long : ℕ
  long = get_or x.tables.transcript a.count 0

  -- between g. and n. the CDS is not looked at
  pub lying_g_to_n : (strict : Bool) (q : Interval GAsked) → checked x (ask_g_to_n strict q) ≡ and_then (given q) (map_g_to_n strict (aligned_by a x.tables x.exons))
  unfolding ask_g_to_n map_g_to_n whole_n n_of_spot
  lying_g_to_n strict q = ask_lying x (ask_g_to_n strict q) k

  pub lying_n_to_g : (strict : Bool) (q : Interval NAsked) → checked x (ask_n_to_g strict q) ≡ map_n_to_g strict (aligned_by a x.tables x.exons) q
  unfolding ask_n_to_g map_n_to_g g_of_ends g_of_spot
  lying_n_to_g strict q = ask_lying x (ask_n_to_g strict q) k

  pub lying_n_to_c : (strict : Bool) (q : Interval NAsked) → checked x (ask_n_to_c strict q) ≡ map_n_to_c strict long (paper_coding c) q
  unfolding ask_n_to_c
  lying_n_to_c strict q = ask_lying x (ask_n_to_c strict q) k ∙ ap (λ (n : ℕ). map_n_to_c strict n (paper_coding c) q) fact.length

  pub lying_c_to_n : (strict : Bool) (q : Interval CAsked) → checked x (ask_c_to_n strict q) ≡ map_c_to_n strict long (paper_coding c) q
  unfolding ask_c_to_n
  lying_c_to_n strict q = ask_lying x (ask_c_to_n strict q) k ∙ ap (λ (n : ℕ). map_c_to_n strict n (paper_coding c) q) fact.length

  pub lying_g_to_c : (strict : Bool) (q : Interval GAsked)
      → checked x (ask_g_to_c strict q) ≡ chain asks_n (and_then (given q) (map_g_to_n strict (aligned_by a x.tables x.exons))) (map_n_to_c strict long (paper_coding c))
  unfolding ask_g_to_c ask_g_to_n ask_n_to_c map_g_to_n whole_n n_of_spot
  lying_g_to_c strict q =
      ask_lying x (ask_g_to_c strict q) k
      ∙ ap (λ (n : ℕ). chain asks_n (and_then (given q) (map_g_to_n strict (aligned_by a x.tables x.exons))) (map_n_to_c strict n (paper_coding c))) fact.length

  pub lying_c_to_g : (strict : Bool) (q : Interval CAsked)
      → checked x (ask_c_to_g strict q) ≡ chain asks_n (map_c_to_n strict long (paper_coding c) q) (map_n_to_g strict (aligned_by a x.tables x.exons))
  unfolding ask_c_to_g ask_c_to_n ask_n_to_g map_n_to_g g_of_ends g_of_spot
  lying_c_to_g strict q =
      ask_lying x (ask_c_to_g strict q) k
      ∙ ap (λ (n : ℕ). chain asks_n (map_c_to_n strict n (paper_coding c) q) (map_n_to_g strict (aligned_by a x.tables x.exons))) fact.length

  pub lying_coding : checked x ask_coding ≡ Ok (codes (paper_coding c))
  unfolding ask_coding
  lying_coding = ask_lying x ask_coding k

  pub lying_in_bounds : (q : Interval GAsked) → checked x (ask_in_bounds q) ≡ through (lies_in_bounds a.first (get_or x.tables.genome a.count 0)) (given q)
  unfolding ask_in_bounds
  lying_in_bounds q = ask_lying x (ask_in_bounds q) k ∙ ap (λ (n : ℕ). through (lies_in_bounds a.first n) (given q)) fact.span
