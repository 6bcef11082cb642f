-- What is shown of the definitions, for the crates above and for this one's proofs.
--     OneStep    one segment's steps, computed with differences that wrap
pub mod OneStep
