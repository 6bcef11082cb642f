-- What the proofs of several functions use.
--     Ways    what each of the three questions is, the short way and the long one
pub mod Ways
