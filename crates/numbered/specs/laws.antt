-- What is shown of the definitions, for the crates above and for this one's proofs.
--     All    a flag that a loop gathers, and two stretches that overlap
pub mod All
