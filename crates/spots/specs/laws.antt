-- What is shown of the definitions.
--     Spans    g. to n. and back as the code goes
pub mod Spans
