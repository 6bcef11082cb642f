-- The root of the crate's specs.
--     Filling    what stands in tables that elements are put into
pub mod Filling
