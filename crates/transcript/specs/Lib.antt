-- The root of the crate's specs.
--     Transcript    what is known of a transcript
--     Building      the transcript that records make
--     Heads         a head's numbers
pub mod Transcript
pub mod Building
pub mod Heads
pub mod laws
