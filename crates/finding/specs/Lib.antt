-- What the contracts of `finding` cite.
--     Finding    which segment of a table a place lies in
pub mod Finding
pub mod laws
