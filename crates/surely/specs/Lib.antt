-- The root of the crate's specs.
--     Surely    the steps of the short way
pub mod Surely
