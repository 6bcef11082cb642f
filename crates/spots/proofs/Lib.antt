-- What the proofs of several functions use.
--     Sizes    how large places, their turns and g. numbers can be
pub mod Sizes
