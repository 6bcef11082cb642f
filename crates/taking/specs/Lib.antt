-- The root of the crate's specs.
--     Taking      what the boundary reads from plain numbers
--     Questions   a question of one of the six mappings as one value of numbers
pub mod Taking
pub mod Questions
