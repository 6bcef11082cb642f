-- A g. interval with two alleles: the plain mapping's c. interval, not narrowed, and both alleles as the transcript reads them, trimmed. Refusals come in the order 23, 34, 20, then the mapping's own. Assumes nothing.
use Rattle.std.specs.Prelude.{ℕ, Bool, false, not, List, length}
use Rattle.refusals.specs.Numbers.{number}
use Rattle.refusals.specs.Outcome.{Outcome, Ok, Err, and_then, through, both}
use Rattle.transcript.specs.Transcript.{Source}
use Rattle.transcript.specs.Transcript.Source.{aligned, length_only}
use Rattle.holding.specs.Holding.{Lent, checked}
use Rattle.positions.specs.Positions.{Interval, GAsked, CPosition}
use Rattle.positions.specs.Answers.{Marked, Answer}
use Rattle.mapper.specs.Asking.{ask_g_to_c}
use Rattle.layout.specs.Layout.{c_laid, refusal, laid}
use Rattle.strands.specs.Turned.{read_on, fitting, turned_into}
use Rattle.strands.specs.Trimmed.{removed_of, left_of}
use Rattle.strands.specs.declared.Removed.{Removed}
use Rattle.alleles.specs.declared.Joined.{Joined}

-- ---- what is asked

-- two alleles: of the genome, as a transcript reads them, or what is left of them
pub record Alleles : Type 0 where
  pub reference : List ℕ
  pub alternative : List ℕ

abbrev pub alleles : List ℕ → List ℕ → Alleles
alleles r a = record { reference = r; alternative = a }

-- how many bytes each of the two buffers has
pub record Rooms : Type 0 where
  pub reference : ℕ
  pub alternative : ℕ

abbrev pub rooms : ℕ → ℕ → Rooms
rooms m n = record { reference = m; alternative = n }

-- ---- the alleles

-- both as the transcript reads them: 34 where a letter of either is outside the list, on either strand
abbrev pub read_both : Bool → Alleles → Outcome Alleles
read_both back s = both alleles (read_on back s.reference) (read_on back s.alternative)

-- what goes of both, and what is left of each
pub record Trimmed : Type 0 where
  pub gone : Removed
  pub left : Alleles

-- prefix first, then suffix
abbrev pub trimmed : Alleles → Trimmed
trimmed s =
    let gone = removed_of s.reference s.alternative in
    record { gone = gone; left = alleles (left_of gone s.reference) (left_of gone s.alternative) }

-- what would be written: 20 where it is longer than its buffer
abbrev pub fitting_both : Rooms → Trimmed → Outcome Trimmed
fitting_both room t = both (λ (r a : List ℕ). t) (fitting room.reference t.left.reference) (fitting room.alternative t.left.alternative)

-- ---- the join

-- the plain mapping's interval, and the alleles beside it
pub record Joining : Type 0 where
  pub interval : Marked CPosition
  pub trimmed : Trimmed

abbrev pub beside : Trimmed → Marked CPosition → Joining
beside t i = record { interval = i; trimmed = t }

-- 34, 20, then the mapping's own
abbrev pub joined_with : Bool → Alleles → Rooms → Answer CPosition → Outcome Joining
joined_with back s room plain = and_then (and_then (read_both back s) (λ (read : Alleles). fitting_both room (trimmed read))) (λ (t : Trimmed). through (beside t) plain)

-- whether a transcript reads its genome backwards. One that is known by its length has no strand and comes to 18: until then it is read as on strand 1, and as much of two alleles goes on either, so that 20 is the same
abbrev pub reads_back : Source → Bool
reads_back (aligned t) = not t.forward
reads_back (length_only n c) = false

unfoldable pub ask_joined : Bool → Interval GAsked → Alleles → Rooms → Source → Outcome Joining
ask_joined strict q s room x = joined_with (reads_back x) s room (ask_g_to_c strict q x)

-- after 23
abbrev pub joined : Lent → Bool → Interval GAsked → Alleles → Rooms → Outcome Joining
joined x strict q s room = checked x (ask_joined strict q s room)

-- ---- as the boundary lays it out

abbrev pub laid_with : Answer CPosition → Removed → ℕ → ℕ → Joined
laid_with plain gone reference alternative = record { answer = laid c_laid plain; prefix = gone.prefix; suffix = gone.suffix; reference = reference; alternative = alternative }

-- where it refuses, the answer's number is the refusal's and all else is 0
abbrev pub joined_laid : Outcome Joining → Joined
joined_laid (Ok j) = laid_with (Ok j.interval) j.trimmed.gone (length j.trimmed.left.reference) (length j.trimmed.left.alternative)
joined_laid (Err k) = record { answer = refusal (number k); prefix = 0; suffix = 0; reference = 0; alternative = 0 }

-- the two buffers afterwards: what is left of an allele is at the front and the rest stays, and where it is refused all stays
abbrev pub reference_after : List ℕ → Outcome Joining → List ℕ
reference_after buffer o = turned_into buffer (through (λ (j : Joining). j.trimmed.left.reference) o)

abbrev pub alternative_after : List ℕ → Outcome Joining → List ℕ
alternative_after buffer o = turned_into buffer (through (λ (j : Joining). j.trimmed.left.alternative) o)
