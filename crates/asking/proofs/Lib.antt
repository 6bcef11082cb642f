-- What the proofs of several functions use.
--     Held     the kind of a question that an entry can hold
--     laws    what is shown of the definitions
mod Held
pub mod laws
