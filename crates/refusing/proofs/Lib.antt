-- The table of refusals, proved; specs/ says what it states.
--     Refusals   which refusals there are
pub mod Refusals
