-- What the contracts of `cigar` cite, and the laws that its callers use.
--     Bytes        a text in quotes as its bytes
--     Elements     the six letters, elements, and how far they go on the two sides
--     Text         what a text reads as
--     Lent         lent memory whose front is filled
--     Read         a text alone, read into lent tables
pub mod Bytes
pub mod Elements
pub mod Text
pub mod Lent
pub mod Read
pub mod laws
