-- What is shown of the definitions, where wrong programs change one of those that it rests on.
--     Counted    records that were read are as many as the records
--     Tallied    the records are tallied one by one
pub mod Counted
pub mod Tallied
