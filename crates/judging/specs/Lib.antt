-- The root of the crate's specs.
--     Input      building's input
--     Judging    building's judgment: every refusal in its order
pub mod Input
pub mod Judging
pub mod laws
