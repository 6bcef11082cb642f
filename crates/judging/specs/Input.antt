-- Building's input: what a host's numbers and bytes, or a card's, stand for. Assumes nothing.
use Rattle.std.specs.Prelude.{ℕ, List, ℤ, Option}
use Rattle.records.specs.Records.{Record, records_from}
use Rattle.transcript.specs.Heads.{start_of, end_of}
use Rattle.transcript.specs.declared.Numbers.{Numbers}

-- the strand, the CDS bounds, each given or not, and the records in genomic order
pub record Input : Type 0 where
  pub strand : ℤ
  pub start : Option ℤ
  pub end : Option ℤ
  pub records : List Record

-- the numbers that are handed over: the strand, the CDS bits, the CDS start and end, and how many records there are
abbrev pub numbers_of : ℤ → ℕ → ℤ → ℤ → ℕ → Numbers
numbers_of strand cds start end count = record { strand = strand; cds = cds; start = start; end = end; count = count }

-- the input of numbers beside the records' bytes
abbrev pub input_of : Numbers → List ℕ → Input
input_of n bytes = record { strand = n.strand; start = start_of n.cds n.start; end = end_of n.cds n.end; records = records_from n.count bytes 0 }
