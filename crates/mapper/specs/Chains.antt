-- The two chains, of a transcript built from records: the first mapping wholly, then the second. Assumes nothing.
use Rattle.std.specs.Prelude.{Bool, ℤ}
use Rattle.transcript.specs.Transcript.{Transcript, transcript_length}
use Rattle.positions.specs.Positions.{Interval, CAsked, GPosition, CPosition, asks_n}
use Rattle.positions.specs.Answers.{Answer, chain}
use Rattle.coding.specs.Coding.{map_n_to_c, map_c_to_n}
use Rattle.spots.specs.Mapping.{map_g_to_n, map_n_to_g}

unfoldable pub map_g_to_c : Bool → Transcript → Interval ℤ → Answer CPosition
map_g_to_c strict t i = chain asks_n (map_g_to_n strict t i) (map_n_to_c strict (transcript_length t) t.coding)

unfoldable pub map_c_to_g : Bool → Transcript → Interval CAsked → Answer GPosition
map_c_to_g strict t i = chain asks_n (map_c_to_n strict (transcript_length t) t.coding i) (map_n_to_g strict t)
