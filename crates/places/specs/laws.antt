-- What is shown of the two mappings.
--     Refusing    which refusals they give
--     Keeping     a strict answer is also the lenient one
--     Marks       when an answer is uncertain
--     Answered    an answer's exon numbers are those of records, and its numbers fit
pub mod Refusing
pub mod Keeping
pub mod Marks
pub mod Answered
