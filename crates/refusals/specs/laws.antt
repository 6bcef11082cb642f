-- What is shown of the definitions.
pub mod Outcomes
pub mod Refusing
pub mod Keeping
