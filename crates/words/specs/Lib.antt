-- What the contracts of `words` cite, and the laws that its callers use.
--     Words       CIGAR words of BAM, read into tables and written from tables
--     Retyping    the aligner's own text of words, and how it is retyped
pub mod Words
pub mod Retyping
pub mod laws
