-- The root of the crate's specs.
pub mod Layout
pub mod Records
pub mod Faults
pub mod Walk
pub mod laws
