-- The root of the crate's specs.
--     Lending    what the boundary reads from lent memory
pub mod Lending
