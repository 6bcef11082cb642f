-- Lemmas on plain values, for the proofs of this crate.
--     NoBits    numbers of no bits
--     Lanes     lanes that segments are taken into
mod NoBits
mod Lanes
