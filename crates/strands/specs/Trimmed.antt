-- Two alleles trimmed, prefix first and then suffix: what goes, what is left, and where that stands in an allele as the genome has it. Assumes nothing.
use Rattle.std.specs.Prelude.{ℕ, ◌-◌, List, Bool, cond, length}
use Rattle.strands.specs.declared.Removed.{Removed}
use Rattle.sequences.specs.Alleles.{stretch, bytes_before, after}
use Rattle.sequences.specs.Slices.{Slice, rest_of, front_of}

-- how many bytes of both go, at the front and then at the back
abbrev pub removed_of : List ℕ → List ℕ → Removed
removed_of r a = record { prefix = bytes_before r a; suffix = after r a }

-- what is left of one of them
abbrev pub left_of : Removed → List ℕ → List ℕ
left_of gone s = stretch s gone.prefix (length s - gone.suffix)

-- where it stands in an allele of the genome: what a transcript on strand -1 reads first stands at the back
abbrev pub left_at : Bool → Removed → Slice → Slice
left_at back gone s = cond back (front_of (rest_of s gone.suffix) gone.prefix) (front_of (rest_of s gone.prefix) gone.suffix)
