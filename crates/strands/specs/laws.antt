-- What is shown of the definitions of Turned and Trimmed.
--     Letters    a letter and its complement
--     Turning    a turned allele, and an allele turned into a lent buffer
--     Strands    what two alleles have in common, and what changed, before turning and after it
--     Trimming   what is left of an allele, before turning and after it
--     Worked     worked examples, computed
pub mod Letters
pub mod Turning
pub mod Strands
pub mod Trimming
pub mod Worked
