-- A strict answer of g. to n. or of n. to g. is also the lenient answer: 14 alone is strict mode's. Assumes nothing.
use Rattle.std.specs.Prelude.{true, false, ◌&&◌, ℤ}
use Rattle.refusals.specs.declared.Refusal.TheVariants.{Outside}
use Rattle.refusals.specs.Refusing.{Kept}
use Rattle.transcript.specs.Transcript.{Transcript, genome_length}
use Rattle.positions.specs.Positions.{Interval, NAsked}
use Rattle.positions.specs.Answers.{g_fits, n_fits}
use Rattle.positions.specs.laws.Keeping.{kept_if, kept_fitting}
use Rattle.spots.specs.Mapping.{inside, earlier, later, place_of_g, whole_n, map_g_to_n, g_of_ends, map_n_to_g}
use Rattle.places.specs.laws.Refusing.{n_inside}

pub g_to_n_kept : (t : Transcript) (i : Interval ℤ) → Kept (map_g_to_n true t i) (map_g_to_n false t i)
unfolding map_g_to_n whole_n inside
g_to_n_kept t i =
    kept_fitting n_fits (whole_n true t i) (whole_n false t i)
    (kept_if (inside true (genome_length t) (place_of_g t.first i.from) && inside true (genome_length t) (place_of_g t.first i.to)) Outside (whole_n false t i))

ends_kept : (t : Transcript) (a b : NAsked) → Kept (g_of_ends true t a b) (g_of_ends false t a b)
unfolding g_of_ends inside
ends_kept t a b = kept_if (n_inside true t a && n_inside true t b) Outside (g_of_ends false t a b)

pub n_to_g_kept : (t : Transcript) (i : Interval NAsked) → Kept (map_n_to_g true t i) (map_n_to_g false t i)
unfolding map_n_to_g
n_to_g_kept t i = kept_fitting g_fits _ _ (ends_kept t (earlier t.forward i.from i.to) (later t.forward i.from i.to))
