-- The root of the crate's specs.
--     Reading    the records' CIGARs as elements
--     Tallies    how many segments elements make, and how far they go
pub mod Reading
pub mod Tallies
pub mod laws
