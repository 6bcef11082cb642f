-- What is shown of the definitions.
pub mod Lines
