-- Which refusals the plain mapping gives once 23 is settled: neither 23 nor 0. Assumes nothing.
use Rattle.std.specs.Prelude.{Bool, List, [], ◌∷◌, refl}
use Rattle.refusals.specs.declared.Refusal.{Refusal}
use Rattle.refusals.specs.declared.Refusal.TheVariants.{NotCoding, Outside, NOutside, TooWide, NoGenome, MissingEnd}
use Rattle.refusals.specs.Refusing.{Only}
use Rattle.transcript.specs.Transcript.{Source}
use Rattle.positions.specs.Positions.{Interval, GAsked}
use Rattle.mapper.specs.Asking.{ask_g_to_c}
use Rattle.mapper.specs.laws.Refusing.{ask_g_to_c_lem}

abbrev pub plain_refusals : List Refusal
plain_refusals = NotCoding ∷ Outside ∷ NOutside ∷ TooWide ∷ NoGenome ∷ MissingEnd ∷ []

pub plain_only : (strict : Bool) (q : Interval GAsked) (x : Source) → Only plain_refusals (ask_g_to_c strict q x)
plain_only strict q x = ask_g_to_c_lem plain_refusals strict refl refl (λ s. refl) (λ s. refl) refl refl q x
