-- The root of the crate's specs.
--     Given    what a question is asked with
pub mod Given
pub mod laws
