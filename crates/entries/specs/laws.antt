-- What is shown of the definitions.
--     RoundTrips   an entry, there and back
pub mod RoundTrips
