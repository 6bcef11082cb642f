-- Lemmas on plain values, for the proofs of this crate.
--     OneLetter    a letter's number above an M's tells a common letter
mod OneLetter
