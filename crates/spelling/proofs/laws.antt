-- What is shown of the definitions, where wrong programs change one of those that it rests on.
--     Decimal      a number's digits
--     RoundTrip    what is written reads as what it was written from
--     BothWays     and what is read is written as it can be
pub mod Decimal
pub mod RoundTrip
pub mod BothWays
