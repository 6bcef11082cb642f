-- The root of the crate's specs.
--     Canonical    the questions and answers that an entry can hold
pub mod Canonical
