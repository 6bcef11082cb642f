-- What is promised to a host, proved; specs/ says what it states.
--     Host       what a host sees
--     Playing    a day recorded and played back
pub mod Host
pub mod Playing
