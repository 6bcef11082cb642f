-- The root of the crate's specs.
--     Holding    when a transcript holds together, and what it stands for
--     Parts      the parts by which that is judged
pub mod Holding
pub mod Parts
pub mod laws
