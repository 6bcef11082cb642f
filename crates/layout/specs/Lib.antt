-- The root of the crate's specs.
--     Layout    how the boundary lays answers out
pub mod Layout
