-- What the contract of `list_all` cites.
--     Cards    the cards of a file, and what listing them leaves in lent memory
pub mod Cards
