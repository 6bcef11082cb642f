-- What is shown of the definitions.
--     Worked        worked examples, computed
--     RoundTrips    elements and their words, there and back
--     Retyped       words and the aligner's own text meet
pub mod Worked
pub mod RoundTrips
pub mod Retyped
