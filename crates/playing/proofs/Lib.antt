-- What the proofs of several functions use.
pub mod Written
pub mod CardEnds
