-- What the proofs of several functions use.
--     Once    what one n. position is in c.
pub mod Once
