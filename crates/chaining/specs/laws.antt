-- What is shown of the definitions.
--     Plain    a first step that bears no mark
pub mod Plain
