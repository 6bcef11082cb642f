-- What the proofs of several functions use.
--     Passed      what was judged and is no refusal
--     Lengths     the judgment of a length, link by link
--     laws    what is shown of the definitions
pub mod Passed
pub mod Lengths
pub mod laws
