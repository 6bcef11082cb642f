-- What is promised of refusals; proofs/ shows that it holds.
--     Refusals   the table of refusals of building, CIGAR text and cards
pub mod Refusals
