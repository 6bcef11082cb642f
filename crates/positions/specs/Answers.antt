-- What a mapping is answered with: an interval with its mark, or the number of a refusal; and refusal 17. Assumes nothing.
use Rattle.std.specs.Prelude.{ℕ, Bool, true, cond, ◌&&◌, ◌≡◌, if◌then◌else◌}
use Rattle.refusals.specs.declared.Refusal.TheVariants.{TooWide}
use Rattle.refusals.specs.Outcome.{Outcome, Ok, Err, and_then, through, both}
use Rattle.whole.specs.Fits.{fits}
use Rattle.positions.specs.Positions.{Interval, each, GPosition, NPosition, CPosition}

-- across the genome an interval is certain or uncertain, and each of its ends has the number of an exon; between n. and c. it bears no mark
pub data Mark : Type 0 where
  certain : Interval ℕ → Mark
  uncertain : Interval ℕ → Mark
  unmarked : Mark

abbrev pub mark_of : Bool → Interval ℕ → Mark
mark_of sure exons = cond sure (certain exons) (uncertain exons)

-- the exon numbers that a mark has, 0 where it has none
abbrev pub exons_of : Mark → Interval ℕ
exons_of (certain exons) = exons
exons_of (uncertain exons) = exons
exons_of unmarked = record { from = 0; to = 0 }

pub record Marked (P : Type 0) : Type 0 where
  pub mark : Mark
  pub interval : Interval P

abbrev pub Answer : Type 0 → Type 0
Answer P = Outcome (Marked P)

abbrev pub certainly : {P : Type 0} → Interval ℕ → Interval P → Answer P
certainly exons i = Ok (record { mark = certain exons; interval = i })

-- a certain answer whose two ends are one position, with its exon
abbrev pub once : {P : Type 0} → ℕ → P → Answer P
once exon a = certainly (record { from = exon; to = exon }) (record { from = a; to = a })

abbrev pub uncertainly : {P : Type 0} → Interval ℕ → Interval P → Answer P
uncertainly exons i = Ok (record { mark = uncertain exons; interval = i })

abbrev pub plainly : {P : Type 0} → Interval P → Answer P
plainly i = Ok (record { mark = unmarked; interval = i })

-- two ends together: the first one's refusal counts first
abbrev pub ends : {P : Type 0} → Mark → Outcome P → Outcome P → Answer P
ends {P} m a b = both (λ (x y : P). record { mark = m; interval = record { from = x; to = y } }) a b

-- ---- two steps in a row

-- uncertain where either step was, with the second step's numbers; a step that bears no mark leaves the other's
abbrev pub in_a_row : Mark → Mark → Mark
in_a_row unmarked n = n
in_a_row (certain a) (certain b) = certain b
in_a_row (certain a) (uncertain b) = uncertain b
in_a_row (certain a) unmarked = certain a
in_a_row (uncertain a) (certain b) = uncertain b
in_a_row (uncertain a) (uncertain b) = uncertain b
in_a_row (uncertain a) unmarked = uncertain a

-- a second step's interval, with the mark of both
abbrev pub after : {P : Type 0} → Mark → Marked P → Marked P
after m a = record { mark = in_a_row m a.mark; interval = a.interval }

-- the first mapping wholly, then the second on its answer asked again
abbrev pub chain : {P Q R : Type 0} → (P → Q) → Answer P → (Interval Q → Answer R) → Answer R
chain {P} asks first second = and_then first (λ (a : Marked P). through (after a.mark) (second (each asks a.interval)))

-- ---- refusal 17

abbrev pub g_fits : GPosition → Bool
g_fits a = fits a.base

abbrev pub n_fits : NPosition → Bool
n_fits a = fits a.base && fits a.offset

abbrev pub c_fits : CPosition → Bool
c_fits a = fits a.base.0 && fits a.offset

-- this where it fits, and else 17
abbrev pub if_fits : {A : Type 0} → (A → Bool) → A → Outcome A
if_fits fit a = if fit a then Ok a else Err TooWide

-- an answer of which each number fits, and else 17
abbrev pub fitting : {P : Type 0} → (P → Bool) → Answer P → Answer P
fitting {P} fit answer = and_then answer (if_fits (λ (a : Marked P). fit a.interval.from && fit a.interval.to))

-- each number of an interval fits
pub record Fitted {P : Type 0} (fit : P → Bool) (i : Interval P) : Type 0 where
  pub from : fit i.from ≡ true
  pub to : fit i.to ≡ true
