-- What is shown of the definitions.
--     Index     the number of a place's segment
--     Rising    entries that rise
pub mod Index
pub mod Rising
