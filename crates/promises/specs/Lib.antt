-- What is promised of the mapper; proofs/ shows that it holds.
--     Bases      how HGVS names a base, and the bases of matched columns and introns
--     Demands    demands 2 and 3
--     Table      the table of places
--     Questions  the refusals of a question in strict mode
pub mod Bases
pub mod Demands
pub mod Table
pub mod Questions
