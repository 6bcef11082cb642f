-- The root of the crate's specs.
--     Mapping    g. to n. and back, of a transcript that lies on the genome
--     Aligned    how it lies as the code holds it, and what the steps give at one end
pub mod Mapping
pub mod Aligned
pub mod laws
