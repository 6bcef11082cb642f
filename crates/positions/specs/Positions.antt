-- Positions on the genome (g.), on the transcript (n.) and on the coding sequence (c.), as they are asked and as they are answered, and intervals of them. Assumes nothing.
use Rattle.std.specs.Prelude.{ℤ, Option}
use Rattle.numbering.specs.declared.CNumber.{CNumber}
use Rattle.positions.specs.declared.Interval as code

-- an interval by its two ends
abbrev pub Interval : Type 0 → Type 0
Interval P = code.Interval P

-- the interval between two ends
abbrev pub between : {P : Type 0} → P → P → Interval P
between a b = record { from = a; to = b }

-- both ends put another way
abbrev pub each : {P Q : Type 0} → (P → Q) → Interval P → Interval Q
each f i = record { from = f i.from; to = f i.to }

-- ---- asked

-- an end of a g. interval: a number, or none
abbrev pub GAsked : Type 0
GAsked = Option ℤ

-- an n. number with an intron offset, 0 for none
pub record NAsked : Type 0 where
  pub base : ℤ
  pub offset : ℤ

-- a c. number with an intron offset, 0 for none
pub record CAsked : Type 0 where
  pub base : CNumber
  pub offset : ℤ

-- ---- answered

pub record GPosition : Type 0 where
  pub base : ℤ

pub record NPosition : Type 0 where
  pub base : ℤ
  pub offset : ℤ

pub record CPosition : Type 0 where
  pub base : CNumber
  pub offset : ℤ

-- an answer asked again
abbrev pub asks_n : NPosition → NAsked
asks_n a = record { base = a.base; offset = a.offset }

abbrev pub asks_c : CPosition → CAsked
asks_c a = record { base = a.base; offset = a.offset }
