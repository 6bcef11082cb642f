-- The root of the crate's specs.
pub mod Coding
pub mod laws
