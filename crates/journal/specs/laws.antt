-- What is shown of the definitions.
--     LogTrips     a log, there and back
--     Appending    an entry more
--     Worked       worked examples
pub mod LogTrips
pub mod Appending
pub mod Worked
