-- The root of the crate's specs.
--     Results     what building, texts and alleles lay out
pub mod Results
