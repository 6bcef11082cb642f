-- What the contracts of `rows` cite.
--     Sizes        the size that a file's memory is lent by
--     Rows         what the file of recorded answers holds
pub mod Sizes
pub mod Rows
