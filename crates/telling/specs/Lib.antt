-- The root of the crate's specs.
--     Seeking    a base that is sought as a g. interval
pub mod Seeking
