-- Questions to a transcript of either kind: 18 before the mapping, and the questions in-bounds and coding. Assumes nothing.
use Rattle.std.specs.Prelude.{Bool}
use Rattle.refusals.specs.declared.Refusal.TheVariants.{NoGenome}
use Rattle.refusals.specs.Outcome.{Outcome, Ok, Err, and_then, through}
use Rattle.transcript.specs.Transcript.{Source, genome_length, length_of, coding_of}
use Rattle.transcript.specs.Transcript.Source.{aligned, length_only}
use Rattle.positions.specs.Positions.{Interval, GAsked, NAsked, CAsked, GPosition, NPosition, CPosition, asks_n}
use Rattle.positions.specs.Answers.{Answer, chain}
use Rattle.coding.specs.Coding.{map_n_to_c, map_c_to_n}
use Rattle.spots.specs.Mapping.{map_g_to_n, map_n_to_g, lies_in_bounds}
use Rattle.chaining.specs.Given.{given, codes}

unfoldable pub ask_g_to_n : Bool → Interval GAsked → Source → Answer NPosition
ask_g_to_n strict q (aligned t) = and_then (given q) (map_g_to_n strict t)
ask_g_to_n strict q (length_only n c) = Err NoGenome

unfoldable pub ask_n_to_g : Bool → Interval NAsked → Source → Answer GPosition
ask_n_to_g strict q (aligned t) = map_n_to_g strict t q
ask_n_to_g strict q (length_only n c) = Err NoGenome

unfoldable pub ask_n_to_c : Bool → Interval NAsked → Source → Answer CPosition
ask_n_to_c strict q x = map_n_to_c strict (length_of x) (coding_of x) q

unfoldable pub ask_c_to_n : Bool → Interval CAsked → Source → Answer NPosition
ask_c_to_n strict q x = map_c_to_n strict (length_of x) (coding_of x) q

-- chains: the first mapping wholly, then the second
unfoldable pub ask_g_to_c : Bool → Interval GAsked → Source → Answer CPosition
ask_g_to_c strict q x = chain asks_n (ask_g_to_n strict q x) (λ (i : Interval NAsked). ask_n_to_c strict i x)

unfoldable pub ask_c_to_g : Bool → Interval CAsked → Source → Answer GPosition
ask_c_to_g strict q x = chain asks_n (ask_c_to_n strict q x) (λ (i : Interval NAsked). ask_n_to_g strict i x)

unfoldable pub ask_coding : Source → Outcome Bool
ask_coding x = Ok (codes (coding_of x))

-- whether a g. interval is in bounds
unfoldable pub ask_in_bounds : Interval GAsked → Source → Outcome Bool
ask_in_bounds q (aligned t) = through (lies_in_bounds t.first (genome_length t)) (given q)
ask_in_bounds q (length_only n c) = Err NoGenome
