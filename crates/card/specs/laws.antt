-- What is shown of the definitions.
pub mod Records
pub mod RoundTrips
pub mod Taken
pub mod Putting
