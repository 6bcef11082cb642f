-- What the proofs of several functions use.
--     Words    words are judged, read and written one by one
pub mod Words
