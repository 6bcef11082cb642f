-- What building answers, and what it leaves in the lent tables. Assumes nothing.
use Rattle.std.specs.Prelude.{ℕ, List, pos, length}
use Rattle.refusals.specs.Numbers.{most_segments}
use Rattle.refusals.specs.Outcome.{Outcome, Ok, Err}
use Rattle.transcript.specs.Building.{first_start, numbers_of}
use Rattle.judging.specs.Judging.{Made, Measured, elements_made}
use Rattle.transcript.specs.Heads.{strand_of, bits_of, start_in, end_in}
use Rattle.segments.specs.Tables.{Tables, padded, tables_of}
use Rattle.transcript.specs.declared.Head.{Head}

-- ---- the head

-- the head of what records make
abbrev pub head_of : Made → Head
head_of m = record {
  kind = pos 0;
  strand = strand_of m.forward;
  first = pos (first_start m.exon_list);
  count = pos (length (elements_made m));
  bits = bits_of m.coding;
  start = start_in m.coding;
  end = end_in m.coding;
  length = pos 0;
  records = pos (length m.exon_list);
}

-- the head of what a length makes
abbrev pub length_head : Measured → Head
length_head m = record {
  kind = pos 1;
  strand = pos 0;
  first = pos 0;
  count = pos 0;
  bits = bits_of m.coding;
  start = start_in m.coding;
  end = end_in m.coding;
  length = pos m.bases;
  records = pos 0;
}

-- ---- the answer: the refusal's number, or the head

abbrev pub built_answer : Outcome Made → Outcome Head
built_answer (Err k) = Err k
built_answer (Ok m) = Ok (head_of m)

abbrev pub length_answer : Outcome Measured → Outcome Head
length_answer (Err k) = Err k
length_answer (Ok m) = Ok (length_head m)

-- ---- the tables afterwards: those of the elements, and of their exon numbers, or, after a refusal, as they were

abbrev pub tables_after : Outcome Made → Tables → Tables
tables_after (Err k) was = was
tables_after (Ok m) was = tables_of (elements_made m)

abbrev pub exons_after : Outcome Made → List ℕ → List ℕ
exons_after (Err k) was = was
exons_after (Ok m) was = padded most_segments (numbers_of m.forward m.exon_list)
