-- What is shown of the definitions.
pub mod RoundTrips
