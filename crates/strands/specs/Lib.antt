-- The root of the crate's specs.
--     Turned    an allele as the other strand reads it
--     Trimmed   two alleles trimmed, prefix first and then suffix
pub mod Turned
pub mod Trimmed
pub mod laws
