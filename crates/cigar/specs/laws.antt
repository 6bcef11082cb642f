-- What is shown of the definitions.
pub mod Filling
pub mod Letters
pub mod Sound
pub mod Steps
pub mod Stores
pub mod Lent
