-- What the proofs of several functions use.
--     Front      a list that a loop fills from the front
--     Values     the slot past a list's end
--     Judging    what a list is answered with, by what is known of what is lent
--     laws    what is shown of the definitions
pub mod Front
pub mod Values
pub mod Judging
pub mod laws
