-- Lemmas on plain values, for the proofs of this crate.
--     laws    what is shown of the definitions
mod Bounds
pub mod laws
