-- Lemmas on plain values, for the proofs of this crate.
--     OneNumber  one step of the exon numbers, computed with a difference that wraps
--     Numbering  that the pass over the exon numbers decides
mod OneNumber
mod Numbering
