-- What is shown of the definitions.
pub mod Fits
pub mod Ends
pub mod Reading
pub mod Refusing
pub mod Keeping
pub mod Same
