-- What the contracts of `playing` cite, and the laws that its callers use.
--     Played    a log replayed on the transcript that a card makes
pub mod Played
pub mod laws
