-- What the contracts of `segments` cite.
--     Tables    a transcript's tables: whether they hold together, the elements that they stand for, and those that elements make
--     Places    where a place of one side is on the other
--     Exons     the exon numbers of segments
--     Paper     the code's ends and spots in the paper's terms
--     laws      what is shown of them
pub mod Tables
pub mod Places
pub mod Exons
pub mod Paper
pub mod laws
