-- What the proofs of several functions use.
pub mod Walk
pub mod Reading
pub mod laws
