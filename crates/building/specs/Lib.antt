-- The root of the crate's specs.
--     Afterwards    what building answers, and what it leaves in the tables
pub mod Afterwards
