-- What is known of a transcript: where its elements lie on the genome, or its length alone; and its CDS. Assumes nothing.
use Rattle.std.specs.Prelude.{ℕ, Bool, List, get_or}
use Rattle.cigar.specs.Elements.{Element, genome, transcript, total}
use Rattle.segments.specs.Exons.{last_number}

-- the CDS bounds, given or not
pub data Cds : Type 0 where
  no_cds : Cds
  cds : ℕ → ℕ → Cds

-- a transcript built from records: whether its strand is 1, its first start on the genome, its elements in genomic order, the exon number of each, its CDS; and how many records it has
pub record Transcript : Type 0 where
  pub forward : Bool
  pub first : ℕ
  pub elements : List Element
  pub numbers : List ℕ
  pub records : ℕ
  pub coding : Cds

-- the exon number of element i, or what stands behind the last: the record count, and on strand -1 the number 1
abbrev pub exon_number : Transcript → ℕ → ℕ
exon_number t i = get_or t.numbers i (last_number t.forward t.records)

abbrev pub genome_length : Transcript → ℕ
genome_length t = total genome t.elements

abbrev pub transcript_length : Transcript → ℕ
transcript_length t = total transcript t.elements

-- a transcript of either kind: built from records, or from a length alone
pub data Source : Type 0 where
  aligned : Transcript → Source
  length_only : ℕ → Cds → Source

abbrev pub length_of : Source → ℕ
length_of (aligned t) = transcript_length t
length_of (length_only n c) = n

abbrev pub coding_of : Source → Cds
coding_of (aligned t) = t.coding
coding_of (length_only n c) = c
