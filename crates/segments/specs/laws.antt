-- What is shown of the definitions, for the crates above and for this one's proofs.
--     Meaning    tables hold together exactly where the facts hold that the test stands for
--     Gathering  a flag that a loop gathers over numbers below another
--     Totals     how far a list of elements goes, by its parts
--     Made       the tables that elements make: what stands at every index, that they hold together, and that they read as the elements
--     Exons      the exon numbers that are read from a table, and where they lie
--     Sizes      how large a spot's numbers are
--     Reading    tables that hold together map a place as their elements do
pub mod Meaning
pub mod Gathering
pub mod Totals
pub mod Made
pub mod Exons
pub mod Sizes
pub mod Reading
