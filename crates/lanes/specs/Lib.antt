-- What the contracts of `lanes` cite.
--     Lanes    lanes that bits are gathered in
pub mod Lanes
