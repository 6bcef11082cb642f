-- What the contracts of `numbered` cite, and what is shown of stretches, for it and for the other passes over lent tables.
--     Numbers    exon numbers as the machine steps from one to the next
--     Stretches  a test of the segments from one on
--     laws       what is shown of stretches
pub mod Numbers
pub mod Stretches
pub mod laws
