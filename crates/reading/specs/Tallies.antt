-- How many segments elements make, and how far they go along the genome and the transcript. Assumes nothing.
use Rattle.std.specs.Prelude.{ℕ, ◌+◌, ◌*◌, ◌≤◌, true, List, length}
use Rattle.refusals.specs.Numbers.{most_segments}
use Rattle.refusals.specs.Outcome.{Ok, Err, Outcome}
use Rattle.cigar.specs.Elements.{Element, genome, transcript, total}
use Rattle.cigar.specs.Text.{Reading}
use Rattle.transcript.specs.Building.{elements_after, elements_of}
use Rattle.reading.specs.Reading.{Exons}
use Rattle.reading.specs.declared.Sums.{Sums}

-- the sums of no elements, and of some
abbrev pub nothing : Sums
nothing = record { count = 0; genome = 0; transcript = 0 }

abbrev pub sums_of : List Element → Sums
sums_of es = record { count = length es; genome = total genome es; transcript = total transcript es }

-- the sums s with one element more, and with some
abbrev pub one_on : Sums → Element → Sums
one_on s x = record { count = s.count + 1; genome = s.genome + genome x; transcript = s.transcript + transcript x }

abbrev pub sums_on : Sums → List Element → Sums
sums_on s es = record { count = s.count + length es; genome = s.genome + total genome es; transcript = s.transcript + total transcript es }

-- with the elements of a text, or its refusal
abbrev pub tallied : Sums → Reading → Outcome Sums
tallied s (Ok es) = Ok (sums_on s es)
tallied s (Err k) = Err k

-- with the elements of the records after one that ends at e. A record's elements have the same sums on either strand
abbrev pub tallied_after : ℕ → Sums → Exons → Outcome Sums
tallied_after e s (Ok xs) = Ok (sums_on s (elements_after true e xs))
tallied_after e s (Err k) = Err k

-- the sums of all records
abbrev pub tallied_all : Exons → Outcome Sums
tallied_all (Ok xs) = Ok (sums_of (elements_of true xs))
tallied_all (Err k) = Err k

-- there are at most 2,048 segments, and each goes less than 2^32, so that the sums fit 64 bits
pub record Bounded (s : Sums) : Type 0 where
  pub few : s.count ≤ most_segments
  pub genome_small : s.genome ≤ s.count * 4294967296
  pub transcript_small : s.transcript ≤ s.count * 4294967296

abbrev pub BoundedTally : Outcome Sums → Type 0
BoundedTally (Ok s) = Bounded s
BoundedTally (Err k) = Unit {0}
