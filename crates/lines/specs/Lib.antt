-- What the contracts of `lines` cite, and the laws that its callers use.
--     Listing    the texts
--     Tables     the lines as they are written from tables
--     Lengths    how long they are at most
pub mod Listing
pub mod Tables
pub mod Lengths
pub mod laws
