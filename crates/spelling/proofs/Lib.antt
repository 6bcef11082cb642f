-- What the proofs of several functions use.
--     Writing     elements of tables are measured and written one by one
--     laws    what is shown of the definitions
pub mod Writing
pub mod laws
