-- The root of the crate's specs.
--     Layout       the layout of a log, named once
--     Logs         a log and its bytes, and an entry more
pub mod Layout
pub mod Logs
pub mod laws
