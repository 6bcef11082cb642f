-- The root of the crate's specs.
--     Joining     a g. interval with two alleles: what it is answered with, and what the two buffers then hold
--     Deciding    which refusal comes first, as the code holds it
--     laws        what is shown of them
pub mod Joining
pub mod Deciding
pub mod laws
