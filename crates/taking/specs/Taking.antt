-- What the boundary reads from plain numbers: the intervals of include/txc.h. Assumes nothing.
use Rattle.std.specs.Prelude.{ℕ, ◌/◌, ◌%◌, Bool, cond, eqb, ℤ, Some, None}
use Rattle.positions.specs.Positions.{Interval, GAsked, NAsked, CAsked}

-- an end of a g. interval: missing where its bit is set
abbrev pub g_end : Bool → ℤ → GAsked
g_end gone z = cond gone None (Some z)

-- bit 0 of `missing` is the start's, bit 1 the end's
unfoldable pub g_asked : ℤ → ℤ → ℕ → Interval GAsked
g_asked a b gone = record { from = g_end (eqb (gone % 2) 1) a; to = g_end (eqb (gone / 2 % 2) 1) b }

abbrev pub n_asked : ℤ → ℤ → ℤ → ℤ → Interval NAsked
n_asked a o b u = record { from = record { base = a; offset = o }; to = record { base = b; offset = u } }

abbrev pub c_asked : ℤ → ℤ → Bool → ℤ → ℤ → Bool → Interval CAsked
c_asked a o s b u t = record { from = record { base = record { 0 = a; 1 = s }; offset = o }; to = record { base = record { 0 = b; 1 = t }; offset = u } }
