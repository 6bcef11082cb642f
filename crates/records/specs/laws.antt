-- What is shown of the definitions.
pub mod Chain
pub mod Walk
