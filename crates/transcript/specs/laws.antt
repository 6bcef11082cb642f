-- What is shown of the definitions.
--     Heads       the number of a strand
pub mod Heads
