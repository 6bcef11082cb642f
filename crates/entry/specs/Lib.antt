-- The root of the crate's specs.
--     Told        what the questions tell of what is lent
pub mod Told
