-- The root of the crate's specs.
--     Layout       the layout of an entry, named once
--     Entries      an entry and its bytes
pub mod Layout
pub mod Entries
pub mod laws
