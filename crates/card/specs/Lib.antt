-- What the contracts of `card` cite, and the laws that its callers use.
--     Layout       where a card's numbers stand
--     Card         what building's input is written as, and what bytes read as
--     Writing      building from a card, and a card in a lent buffer
--     Putting      texts that are put into a buffer one after the other
pub mod Layout
pub mod Card
pub mod Writing
pub mod Putting
pub mod laws
