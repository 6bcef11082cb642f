-- What is left of an allele where it stands on the genome, and as a transcript reads it.
--     left_read      turned, or as it stands, it is what is left of the allele so read
--     left_length    it is as long
--     left_bases     it is of bases where the allele is
-- Assumes nothing.
use Rattle.std.specs.Prelude.{◌≡◌, Bool, true, false, List, ℕ, ◌-◌, length, drop}
use Rattle.std.proofs.Common.{sym, ap, ◌∙◌}
use Rattle.strands.specs.declared.Removed.{Removed}
use Rattle.sequences.specs.Alleles.{stretch}
use Rattle.sequences.specs.Slices.{Slice, size}
use Rattle.strands.specs.Turned.{are_bases, turned, on_strand}
use Rattle.strands.specs.Trimmed.{left_of, left_at}
use Rattle.sequences.specs.laws.Parts.{between_bytes}
use Rattle.strands.specs.laws.Turning.{bases_parts, on_strand_length}
use Rattle.strands.specs.laws.Strands.{stretch_turned}

stretch_bases : (s : List ℕ) (p n : ℕ) → are_bases s ≡ true → are_bases (stretch s p n) ≡ true
stretch_bases s p n h = (bases_parts (n - p) (drop p s) (bases_parts p s h).1).0

module _ (gone : Removed) (s : Slice) where
  pub left_read : (back : Bool) → on_strand back (left_at back gone s).bytes ≡ left_of gone (on_strand back s.bytes)
  left_read true = ap turned (between_bytes s gone.suffix gone.prefix) ∙ sym (stretch_turned gone.suffix gone.prefix s.bytes)
  left_read false = between_bytes s gone.prefix gone.suffix

  pub left_length : (back : Bool) → length (left_at back gone s).bytes ≡ length (left_of gone (on_strand back s.bytes))
  left_length back = sym (on_strand_length back (left_at back gone s).bytes) ∙ ap length (left_read back)

  pub left_bases : (back : Bool) → are_bases s.bytes ≡ true → are_bases (left_at back gone s).bytes ≡ true
  left_bases true h = ap are_bases (between_bytes s gone.suffix gone.prefix) ∙ stretch_bases s.bytes gone.suffix (size s - gone.prefix) h
  left_bases false h = ap are_bases (between_bytes s gone.prefix gone.suffix) ∙ stretch_bases s.bytes gone.prefix (size s - gone.suffix) h
