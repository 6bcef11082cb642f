-- What is known of what a host lends, as the code holds it. Assumes nothing.
use Rattle.std.specs.Prelude.{ℕ, true, List, ◌≡◌, pos, nat_abs, if◌then◌else◌, Some, None, Option}
use Rattle.std.specs.Int.Signed.{le_z}
use Rattle.refusals.specs.declared.Refusal.TheVariants.{NotTogether}
use Rattle.refusals.specs.Outcome.{Outcome, Ok, Err}
use Rattle.transcript.specs.Transcript as paper
use Rattle.transcript.specs.Transcript.Cds.{no_cds, cds}
use Rattle.transcript.specs.declared.Head.{Head}
use Rattle.holding.specs.Holding.{of_records, is_forward, both_given, segments_in, records_in, cds_holds, Lent, holds}
use Rattle.holding.specs.Parts.{bases_of}
use Rattle.spots.specs.declared.Alignment.{Alignment}
use Rattle.knowing.specs.declared.Cds.{Cds}
use Rattle.knowing.specs.declared.Known.{Known}
use Rattle.knowing.specs.declared.Known.TheVariants as known

-- how a head's transcript lies
abbrev pub alignment_of : Head → Alignment
alignment_of h = record { forward = is_forward h; first = nat_abs h.first; count = segments_in h; records = records_in h }

-- CDS bounds that are given are not negative
pub record NaturalBounds (h : Head) : Type 0 where
  pub start : both_given h ≡ true → le_z (pos 0) h.start ≡ true
  pub end : both_given h ≡ true → le_z (pos 0) h.end ≡ true

abbrev pub coding_in : Head → Option Cds
coding_in h = if both_given h then Some (record { start = nat_abs h.start; end = nat_abs h.end }) else None

-- how a head's transcript lies, or its length, and its CDS
abbrev pub head_says : Head → Known
head_says h = if of_records h then known.Aligned (coding_in h) (alignment_of h) else known.OfLength (coding_in h) (nat_abs h.length)

-- of a transcript that holds together: what its head says; 23 of any other
abbrev pub known_of : Lent → Outcome Known
known_of x = if holds x then Ok (head_says x.head) else Err NotTogether

-- of a transcript whose tables are not looked at, by how many bases it has: what its head says, where the CDS holds
abbrev pub told_by : Head → Option ℕ → Outcome Known
told_by h (Some n) = if cds_holds h n then Ok (head_says h) else Err NotTogether
told_by h None = Err NotTogether

unfoldable pub told_of : Head → List ℕ → Outcome Known
told_of h transcript = told_by h (bases_of h transcript)

abbrev pub paper_coding : Option Cds → paper.Cds
paper_coding (Some c) = cds c.start c.end
paper_coding None = no_cds
