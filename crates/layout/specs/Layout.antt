-- How the boundary lays its answers out: the words of include/txc.h. Assumes nothing.
use Rattle.std.specs.Prelude.{ℕ, Bool, cond, pos}
use Rattle.refusals.specs.Numbers.{number}
use Rattle.refusals.specs.Outcome.{Outcome, Ok, Err}
use Rattle.positions.specs.Positions.{GPosition, NPosition, CPosition}
use Rattle.positions.specs.Answers as paper
use Rattle.positions.specs.Answers.Mark.{certain, uncertain, unmarked}
use Rattle.layout.specs.declared.lay.Position.{Position}
use Rattle.layout.specs.declared.lay.Answer.{Answer}
use Rattle.layout.specs.declared.lay.Said.{Said}

abbrev pub star_of : Bool → ℕ
star_of star = cond star 1 0

abbrev pub nowhere : Position
nowhere = record { base = pos 0; offset = pos 0; star = 0; exon = 0 }

-- a position, with its exon's number, 0 where it has none
abbrev pub g_laid : ℕ → GPosition → Position
g_laid exon a = record { base = a.base; offset = pos 0; star = 0; exon = exon }

abbrev pub n_laid : ℕ → NPosition → Position
n_laid exon a = record { base = a.base; offset = a.offset; star = 0; exon = exon }

abbrev pub c_laid : ℕ → CPosition → Position
c_laid exon a = record { base = a.base.0; offset = a.offset; star = star_of a.base.1; exon = exon }

abbrev pub mark_number : paper.Mark → ℕ
mark_number (certain exons) = 1
mark_number (uncertain exons) = 2
mark_number unmarked = 3

-- where it refuses, the number is the refusal's and all else is 0
abbrev pub refusal : ℕ → Answer
refusal k = record { number = k; mark = 0; start = nowhere; end = nowhere }

-- an answer of any kind of position
abbrev pub laid : {P : Type 0} → (ℕ → P → Position) → paper.Answer P → Answer
laid place (Ok a) = record { number = 0; mark = mark_number a.mark; start = place (paper.exons_of a.mark).from a.interval.from; end = place (paper.exons_of a.mark).to a.interval.to }
laid place (Err k) = refusal (number k)

abbrev pub said_laid : Outcome Bool → Said
said_laid (Ok b) = record { number = 0; yes = star_of b }
said_laid (Err k) = record { number = number k; yes = 0 }
