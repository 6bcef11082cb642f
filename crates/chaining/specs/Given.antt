-- What a question is asked with: both ends of a g. interval, or 19; and whether there is a CDS to ask of. Assumes nothing.
use Rattle.std.specs.Prelude.{Bool, true, false, ℤ, Some, None}
use Rattle.refusals.specs.declared.Refusal.TheVariants.{MissingEnd}
use Rattle.refusals.specs.Outcome.{Outcome, Ok, Err}
use Rattle.transcript.specs.Transcript.{Cds}
use Rattle.transcript.specs.Transcript.Cds.{no_cds, cds}
use Rattle.positions.specs.Positions.{Interval, GAsked}

-- the two ends of a g. interval, or 19 where one is missing
abbrev pub given_ends : GAsked → GAsked → Outcome (Interval ℤ)
given_ends (Some a) (Some b) = Ok (record { from = a; to = b })
given_ends (Some a) None = Err MissingEnd
given_ends None b = Err MissingEnd

abbrev pub given : Interval GAsked → Outcome (Interval ℤ)
given q = given_ends q.from q.to

-- whether the transcript codes
abbrev pub codes : Cds → Bool
codes no_cds = false
codes (cds s e) = true
