-- A base that is sought as both ends of a g. interval. Assumes nothing.
use Rattle.std.specs.Prelude.{ℕ, List, ◌≡◌, ℤ, Option, Some, None}
use Rattle.refusals.specs.Outcome.{Outcome, Ok}
use Rattle.positions.specs.Positions.{Interval}
use Rattle.spots.specs.Mapping.{place_of_g}
use Rattle.spots.specs.declared.Alignment.{Alignment}
use Rattle.lone.specs.Lone.{Seen}
use Rattle.lone.specs.declared.Sought.{Sought}

-- both ends are given and are one number, and its place is p
pub record Based (a : Alignment) (ends : Outcome (Interval ℤ)) (p : ℤ) : Type 0 where
  pub g : ℤ
  pub both : ends ≡ Ok (record { from = g; to = g })
  pub place : p ≡ place_of_g a.first g

-- it is that place, where it was seen
abbrev pub SoughtBase : Alignment → List ℕ → Outcome (Interval ℤ) → Option Sought → Type 0
SoughtBase a starts ends (Some s) = Based a ends s.place.0 × Seen starts a.count s.place.0 s.number
SoughtBase a starts ends None = Unit
