-- What the contracts of `letters` cite.
--     Letters    the common letters
pub mod Letters
