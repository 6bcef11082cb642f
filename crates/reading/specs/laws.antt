-- What is shown of the definitions.
--     Sizes      what a record reads as, by its CIGAR's size
--     Texts      a text is tallied element by element
--     Spans      a record's reading and 32
pub mod Sizes
pub mod Texts
pub mod Spans
