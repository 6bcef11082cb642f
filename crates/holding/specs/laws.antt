-- What is shown of the definitions.
--     Held     holding together as facts, and what a question goes by
--     Parts    what is left of holding together once parts of it were judged
pub mod Held
pub mod Parts
