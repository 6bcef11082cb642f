-- The root of the crate's specs.
pub mod Positions
pub mod Answers
pub mod Paper
pub mod laws
