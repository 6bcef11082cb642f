-- What the proofs of several functions use.
--     KindNumbers    a number and the kind of it
pub mod KindNumbers
