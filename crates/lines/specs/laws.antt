-- What is shown of the definitions.
pub mod Worked
pub mod Tables
