-- The laws of the loop over cards.
pub mod Listed
