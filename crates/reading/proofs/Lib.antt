-- What the proofs of several functions use.
--     Gaps    a bound that is not negative
--     laws    what is shown of the definitions
pub mod Gaps
pub mod laws
