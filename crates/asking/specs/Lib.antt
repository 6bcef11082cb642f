-- The root of the crate's specs.
--     Asking    what is said to a question as one value
--     Making    a log that was made on what is lent
pub mod Asking
pub mod Making
