-- What is promised to a host; proofs/ shows that it holds.
--     Host       what a host sees: the demands in the numbers that it is told
--     Playing    a day recorded and played back
pub mod Host
pub mod Playing
