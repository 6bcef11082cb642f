-- The root of the crate's specs.
pub mod Numbers
pub mod Outcome
pub mod Refusing
pub mod laws
