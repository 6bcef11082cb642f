-- The root of the crate's specs.
--     Knowing    what is known of what is lent, as the code holds it
pub mod Knowing
pub mod laws
