-- Lemmas on plain values, for the proofs of this crate.
--     Deciding    that the passes over the tables decide
mod Deciding
