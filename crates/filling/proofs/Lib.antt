-- What the proofs of several functions use.
--     Fills       elements are put into tables one by one
--     Taken       a text and a record whose tally is no refusal
--     Past        records that were accepted are put in one by one
--     Numbers     their exon numbers
--     Runs        runs of stores
--     Finished    tables that were filled and finished
pub mod Fills
pub mod Taken
pub mod Past
pub mod Numbers
pub mod Runs
pub mod Finished
