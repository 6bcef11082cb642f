-- The root of the crate's specs.
--     Lone    a base by itself
pub mod Lone
pub mod laws
